-- Lines of a text, one after the other.
use Rattle.std.specs.Prelude.{◌≡◌, ◌+◌, ◌++◌, ℕ, length}
use Rattle.certificate.specs.declared.rest.Rest.{Rest}
use Rattle.certificate.specs.Values.{AreLines, Values, values_text}

-- the lines between what was left and what is left
pub record AreRead (version : ℕ) (old new : Rest) (ls : Values) : Type 0 where
  pub lines : AreLines version ls
  pub text : old.text.now ≡ values_text ls ++ new.text.now
  pub number : new.line ≡ old.line + length ls
