use Rattle.std.proofs.Common.{◌≡◌, ◌∙◌, ap, sym, ◌≤◌, List, length, map, Option, Some, None, subst}
use Rattle.std.specs.Option.{MatchOption}
use Rattle.indexmap.proofs.MapLemmas.{OnOk-map}
use Rattle.ca_bodies.specs.Functions.{Functions}
use Rattle.ca_bodies.specs.Shown.{shown_function, shown_signature}
use Rattle.ca_model.specs.typing.Scopes.{FunctionOf}
use Rattle.ca_model.specs.typing.Signatures.{declared_too, changed_at}
use Rattle.ca_bodies.proofs.Changed.{changed_past, changed_there}
use Rattle.ca_bodies.proofs.functions.Functions.declare_too.Goals as goal

pub returns-in_default : goal.returns-in_default
returns-in_default c =
    let past : length c.self.inside.declared.items ≤ c.args.index = none c.get_mut.result _ _ c.in_default.is c.get_mut.ensures.item.3 in
    ap (λ (fs : List FunctionOf). record { functions = fs; defined = map (λ d. d.now) c.self.inside.defined.items }) (sym (changed_past shown_function (declared_too c.args.is_definition (shown_signature c.args.of)) c.self.inside.declared.items c.args.index past))
    ∙ ap (λ (f : Functions). record f { functions = changed_at c.args.index (declared_too c.args.is_definition (shown_signature c.args.of)) f.functions }) c.self.view_is
  where
    none : {X : Type 0} (r : Option X) (P : Type 0) (Q : X → Type 0) → r ≡ None → MatchOption r P Q → P
    none None P Q is p = p
    none (Some x) P Q is p = absurd cc

pub returns : goal.returns
returns c = OnOk-map c.one_more.result _ _ (λ is.
    ap (λ (fs : List FunctionOf). record { functions = fs; defined = map (λ d. d.now) c.self.inside.defined.items }) (changed_there shown_function go c.self.inside.declared.items c.args.index c.in-Some.entry.now c.one_more.new.entry (some c.get_mut.result c.in-Some.entry _ _ c.in-Some.is c.get_mut.ensures.item.3).1 is)
    ∙ ap (λ (f : Functions). record f { functions = changed_at c.args.index go f.functions }) c.self.view_is) c.one_more.ensures
  where
    go : FunctionOf → FunctionOf
    go = declared_too c.args.is_definition (shown_signature c.args.of)

    some : {X : Type 0} (r : Option X) (x : X) (P : Type 0) (Q : X → Type 0) → r ≡ Some x → MatchOption r P Q → Q x
    some None x P Q is q = absurd cc
    some (Some y) x P Q is q = let e : y ≡ x = cc in subst Q e q
