-- A line, from one piece or several.
use Rattle.std.proofs.Common.{◌≡◌, ◌≤◌, ◌<◌, ◌+◌, ◌∙◌, ℕ, refl, sym, ap, subst, arith, List, [], ◌∷◌, ◌++◌, append_assoc, append-nil, length, take, drop, slice_index, codes}
use Rattle.std.specs.Prelude.{slice_range}
use Rattle.std.proofs.lemmas.List.{drop_more, length-append, length-take-le, take-append-drop}
use Rattle.lot_io.specs.Outside.{Shelved}
use Rattle.cert_lines.specs.declared.limits.TheConstants.{MAX_LINE}
use Rattle.cert_lines.specs.Text.{HasNoFeed, line_text}
use Rattle.cert_lines.proofs.Feeds.{feed_append}
use Rattle.cert_stream.specs.declared.lines.LineReader.{LineReader}
use Rattle.cert_stream.specs.declared.lines.Next.TheVariants as next
use Rattle.cert_stream.specs.declared.lines.Found.TheVariants as found
use Rattle.cert_stream.specs.Reader.{IsBegun, IsFound, IsLong, IsNext, IsSound, KeepsPiece, bytes_of, rest_in, text_from, unread}
use Rattle.cert_stream.proofs.Pieces.{length_slice, none_unread, slice_after}

-- bytes up to a line feed
pub up_to_feed : (u : List ℕ) (count : ℕ) → count < length u → slice_index u count ≡ 10 → u ≡ line_text (take count u) ++ drop (count + 1) u
up_to_feed u count less feed =
    sym (take-append-drop count u) ∙ ap (λ t. take count u ++ t) (drop_more u count 0 less ∙ ap (λ b. b ∷ drop (count + 1) u) feed) ∙ sym (append_assoc (take count u) (codes "\n") (drop (count + 1) u))

-- ---- what is found in a piece
pub too_many_found : (a b : LineReader) (seen : List ℕ) (count : ℕ) → seen ≡ unread a → count ≤ length seen → HasNoFeed (take count seen) → MAX_LINE < length a.line.items + count → IsFound found.TooMany a b
too_many_found a b seen count is bound plain long = (take count seen, drop count seen, sym is ∙ sym (take-append-drop count seen), plain, omega (arith, long, length-take-le count seen bound))

pub feed_found : (a b : LineReader) (seen : List ℕ) (count : ℕ) → IsSound a → seen ≡ unread a → count < length seen → HasNoFeed (take count seen) → slice_index seen count ≡ 10 → length a.line.items + count ≤ MAX_LINE → b.room ≡ a.room → b.end ≡ a.end → b.start ≡ a.start + (count + 1) → b.line.items ≡ a.line.items ++ take count seen → IsFound found.Feed a b
feed_found a b seen count sound is less plain feed short room end start line =
    let size = length_slice a.room.items a.start a.end sound.start (omega (arith, sound.room, sound.end)) in
    let fits : a.start + (count + 1) ≤ a.end = omega (arith, less, ap length is, size, sound.start) in
    let after : unread b ≡ drop (count + 1) seen = same_slice b.room.items a.room.items b.start (a.start + (count + 1)) b.end a.end (ap (λ v. v.items) room) start end ∙ slice_after a.room.items a.start a.end (count + 1) (a.start + (count + 1)) refl fits ∙ ap (drop (count + 1)) (sym is) in (
      take count seen,
      record { line = line; short = omega (arith, ap length line, length-append a.line.items (take count seen), length-take-le count seen (omega (arith, less)), short); plain = plain },
      sym is ∙ up_to_feed seen count less feed ∙ ap (λ t. line_text (take count seen) ++ t) (sym after),
      omega (arith, start),
    )
  where
    same_slice : (xs ys : List ℕ) (s t e f : ℕ) → xs ≡ ys → s ≡ t → e ≡ f → slice_range xs s e ≡ slice_range ys t f
    same_slice xs ys s t e f a b d = cc

-- ---- what was found, put after the line so far
fed_text : (line w feed rest after : List ℕ) → line ++ (((w ++ feed) ++ rest) ++ after) ≡ ((line ++ w) ++ feed) ++ (rest ++ after)
fed_text line w feed rest after = simp append_assoc refl

more_text : (line piece after : List ℕ) → line ++ (piece ++ after) ≡ (line ++ piece) ++ after
more_text line piece after = sym (append_assoc line piece after)

pub fed : (shelf : Shelved) (name : List ℕ) (a b : LineReader) (text : List ℕ) → text ≡ text_from shelf name a → IsBegun a → KeepsPiece a b → IsFound found.Feed a b → IsNext next.Line b.line.items text (rest_in shelf name b)
fed shelf name a b text is begun kept (w, moved, split, further) =
    let after = drop a.at (bytes_of shelf name) in
    let same : after ≡ drop b.at (bytes_of shelf name) = ap (λ k. drop k (bytes_of shelf name)) (sym kept.at) in
    let line : text ≡ line_text (a.line.items ++ w) ++ (unread b ++ after) = is ∙ ap (λ u. a.line.items ++ (u ++ after)) split ∙ fed_text a.line.items w (codes "\n") (unread b) after in (
      line ∙ ap (λ l. line_text l ++ (unread b ++ after)) (sym moved.line) ∙ ap (λ t. line_text b.line.items ++ (unread b ++ t)) same,
      subst HasNoFeed (sym moved.line) (feed_append a.line.items w begun.plain moved.plain),
      moved.short,
    )

pub longer : (shelf : Shelved) (name : List ℕ) (a b : LineReader) → KeepsPiece a b → IsFound found.NoFeed a b → text_from shelf name b ≡ text_from shelf name a
longer shelf name a b kept (moved, end) =
    let after = drop a.at (bytes_of shelf name) in
    let same : drop b.at (bytes_of shelf name) ≡ after = ap (λ k. drop k (bytes_of shelf name)) kept.at in
    ap (λ t. b.line.items ++ (t ++ drop b.at (bytes_of shelf name))) (none_unread b.room.items b.start b.end end) ∙ ap (λ t. b.line.items ++ t) same ∙ ap (λ l. l ++ after) moved.line ∙ append_assoc a.line.items (unread a) after

pub begun_on : (a b : LineReader) → IsBegun a → IsFound found.NoFeed a b → IsBegun b
begun_on a b begun (moved, end) = record { plain = subst HasNoFeed (sym moved.line) (feed_append a.line.items (unread a) begun.plain moved.plain); short = moved.short }

pub grown : (a b : LineReader) → IsSound a → a.start < a.end → IsFound found.NoFeed a b → length a.line.items < length b.line.items
grown a b sound some (moved, end) =
    let more = length_slice a.room.items a.start a.end sound.start (omega (arith, sound.room, sound.end)) in
    omega (arith, ap length moved.line, length-append a.line.items (unread a), more, some)

pub too_many : (shelf : Shelved) (name : List ℕ) (a b : LineReader) (text : List ℕ) → text ≡ text_from shelf name a → IsBegun a → IsFound found.TooMany a b → IsLong text
too_many shelf name a b text is begun (w, rest, split, plain, long) =
    let after = drop a.at (bytes_of shelf name) in record {
      first = a.line.items ++ w;
      rest = rest ++ after;
      is = is ∙ ap (λ u. a.line.items ++ (u ++ after)) split ∙ four_text a.line.items w rest after;
      plain = feed_append a.line.items w begun.plain plain;
      long = omega (arith, length-append a.line.items w, long);
    }
  where
    four_text : (line w rest after : List ℕ) → line ++ ((w ++ rest) ++ after) ≡ (line ++ w) ++ (rest ++ after)
    four_text line w rest after = simp append_assoc refl

-- nothing is left after the line so far
pub line_alone : (shelf : Shelved) (name : List ℕ) (a : LineReader) (text rest : List ℕ) → text ≡ a.line.items ++ rest → rest ≡ [] → text ≡ a.line.items
line_alone shelf name a text rest is none = is ∙ ap (λ t. a.line.items ++ t) none ∙ append-nil a.line.items

-- ---- where more bytes were fetched first, and the line so far is the same
pub same_text : (old new : Shelved) (name : List ℕ) (a b : LineReader) → b.line ≡ a.line → rest_in new name b ≡ rest_in old name a → text_from old name a ≡ text_from new name b
same_text old new name a b line rest = ap (λ v. v.items ++ rest_in old name a) (sym line) ∙ ap (λ t. b.line.items ++ t) (sym rest)

pub begun_same : (a b : LineReader) → b.line ≡ a.line → IsBegun a → IsBegun b
begun_same a b line begun = record { plain = subst (λ v. HasNoFeed v.items) (sym line) begun.plain; short = subst (λ v. length v.items ≤ MAX_LINE) (sym line) begun.short }
