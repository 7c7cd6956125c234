use Rattle.std.proofs.Common.{◌≡◌, ℕ, sym, subst}
use Rattle.ca_flow.specs.Lowerings.{Lowering}
use Rattle.ca_thread.specs.Privates.{IsStart}
use Rattle.ca_machine.proofs.steps.made_by.Goals as goal

some_number : (n : ℕ) → (n ≡ 0 → ⊥) → n ≡ 0 → ⊥
some_number n other e = other e

pub start-requires : goal.start-requires
start-requires c =
    let named = c.requires.named in
    subst (λ (l : Lowering). IsStart l.source c.in-Create.number c.in-Create-next.function) (sym c.requires.code)
    (named.named c.in-Create-next.function c.in-Create-next.argument c.in-Create.number (c.in-Create-next.ensures named.state named.at) c.if-number-eq0.false)
