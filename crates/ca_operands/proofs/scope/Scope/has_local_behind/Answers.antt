use Rattle.std.proofs.Common.{◌≡◌, ◌-◌, ◌∙◌, ℕ, List, take, length, length-drop, sym, ap}
use Rattle.std.specs.Prelude.{drop}
use Rattle.std.specs.List.{list_any}
use Rattle.std.proofs.Math.Seq.{take-length}
use Rattle.std.specs.Str.{bytes_eq}
use Rattle.ca_model.specs.typing.Scopes.{Scope}
use Rattle.ca_operands.specs.Shown.{shown_local}
use Rattle.ca_operands.proofs.Lookups.{named_behind}
use Rattle.ca_operands.proofs.scope.Scope.has_local_behind.Goals as goal

-- what stands behind the earliest n
rest : {A : Type 0} (xs : List A) (n : ℕ) → take (length xs - n) (drop n xs) ≡ drop n xs
rest xs n = ap (λ k. take k (drop n xs)) (sym (length-drop n xs)) ∙ take-length (drop n xs)

pub returns : goal.returns
returns c =
    c.has_name.ensures ∙ (ap (list_any (λ x. bytes_eq c.args.name.now (shown_local x).0)) (rest c.deref.result.now c.args.count ∙ ap (drop c.args.count) c.deref.ensures.value)
    ∙ named_behind (λ x. bytes_eq c.args.name.now x.0) c.self.inside.locals.items c.args.self.now.locals c.args.count (ap (λ (s : Scope). s.locals) c.self.view_is))
