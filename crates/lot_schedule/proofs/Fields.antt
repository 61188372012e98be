-- Records of five fields.
use Rattle.std.proofs.Common.{◌≡◌, ◌≢◌, ◌≤◌, ◌<◌, ◌^◌, ◌∙◌, ℕ, List, [], ◌∷◌, length, decimal, refl, sym, subst, arith}
use Rattle.csv.specs.Records.{field_at}
use Rattle.lot_sizing.specs.Problem.{Problem, item_at, item_count, resource_at, resource_count}
use Rattle.csv_records.specs.Records.{Record, field}
use Rattle.lot_schedule.specs.Records.{IsRow, row_of}
use Rattle.lot_schedule.specs.declared.slot.Slot.{Slot}

-- a record of five fields is these
pub five : (r : Record) → length r ≡ 5 → r ≡ field r 1 ∷ field r 2 ∷ field r 3 ∷ field r 4 ∷ field r 5 ∷ []
unfolding field_at
five [] size = absurd (omega (arith, size))
five (a ∷ []) size = absurd (omega (arith, size))
five (a ∷ b ∷ []) size = absurd (omega (arith, size))
five (a ∷ b ∷ c ∷ []) size = absurd (omega (arith, size))
five (a ∷ b ∷ c ∷ d ∷ []) size = absurd (omega (arith, size))
five (a ∷ b ∷ c ∷ d ∷ e ∷ []) size = refl
five (a ∷ b ∷ c ∷ d ∷ e ∷ f ∷ rest) size = absurd (omega (arith, size))

-- the fields of a slot's row
pub record HasFields (m : Problem) (s : Slot) (r : Record) : Type 0 where
  pub size : length r ≡ 5
  pub resource : field r 1 ≡ (resource_at m s.resource).name
  pub period : field r 2 ≡ decimal s.period
  pub item : field r 3 ≡ (item_at m s.item).name
  pub start : field r 4 ≡ decimal s.start
  pub end : field r 5 ≡ decimal s.end

pub has_fields : (m : Problem) (s : Slot) (r : Record) → r ≡ row_of m s → HasFields m s r
unfolding field_at
has_fields m s r is = subst (HasFields m s) (sym is) (record { size = refl; resource = refl; period = refl; item = refl; start = refl; end = refl })

pub row_is : (m : Problem) (s : Slot) (r : Record) → HasFields m s r → r ≡ row_of m s
row_is m s r has = five r has.size ∙ rw (has.resource, has.period, has.item, has.start, has.end) refl

-- ---- records that are no slot's row
pub no_resource : (m : Problem) (r : Record) (x : List ℕ) → x ≡ field r 1 → ((k : ℕ) → 1 ≤ k → k ≤ resource_count m → x ≢ (resource_at m k).name) → IsRow m r → ⊥
no_resource m r x e none (s, is) = none s.resource is.exists.resource_low is.exists.resource_high (e ∙ (has_fields m s r is.row).resource)

pub no_period : (m : Problem) (r : Record) (x : List ℕ) → x ≡ field r 2 → ((t : ℕ) → 1 ≤ t → t ≤ m.periods → x ≢ decimal t) → IsRow m r → ⊥
no_period m r x e none (s, is) = none s.period is.exists.period_low is.exists.period_high (e ∙ (has_fields m s r is.row).period)

pub no_item : (m : Problem) (r : Record) (x : List ℕ) → x ≡ field r 3 → ((i : ℕ) → 1 ≤ i → i ≤ item_count m → x ≢ (item_at m i).name) → IsRow m r → ⊥
no_item m r x e none (s, is) = none s.item is.exists.item_low is.exists.item_high (e ∙ (has_fields m s r is.row).item)

pub no_start : (m : Problem) (r : Record) (x : List ℕ) → x ≡ field r 4 → ((n : ℕ) → n < 2 ^ 64 → x ≢ decimal n) → IsRow m r → ⊥
no_start m r x e none (s, is) = none s.start is.start (e ∙ (has_fields m s r is.row).start)

pub no_end : (m : Problem) (r : Record) (x : List ℕ) → x ≡ field r 5 → ((n : ℕ) → n < 2 ^ 64 → x ≢ decimal n) → IsRow m r → ⊥
no_end m r x e none (s, is) = none s.end is.end (e ∙ (has_fields m s r is.row).end)
