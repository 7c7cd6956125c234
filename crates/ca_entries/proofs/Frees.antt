-- What can't be freed.
use Rattle.std.proofs.Common.{◌≡◌, false}
use Rattle.std.proofs.lemmas.Bool.{false_from_ne_true}
use Rattle.ca_model.specs.declared.values.Value.{Value}
use Rattle.ca_model.specs.Shared.{Blocks, CanFree}
use Rattle.ca_model.specs.ComingEntries.{can_free}
use Rattle.ca_model.proofs.Entries.{can_free_is}

pub cannot_free : (m : Blocks) (x : Value) → (CanFree m x → ⊥) → can_free m x ≡ false
cannot_free m x never = false_from_ne_true (can_free m x) (λ e. never (can_free_is m x e))
