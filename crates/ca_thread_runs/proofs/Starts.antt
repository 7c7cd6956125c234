-- With which function a thread may start.
use Rattle.std.proofs.Common.{◌≡◌, ◌<◌, ℕ, List, length, Some, sym, ap, subst, ◌∙◌, arith, inl, inr}
use Rattle.std.specs.Prelude.{slice_get}
use Rattle.ca_tree.specs.declared.numbers.FunId.{FunId}
use Rattle.ca_model.specs.declared.tree.Function.{Function}
use Rattle.ca_model.specs.Codes.{Typed}
use Rattle.ca_model.specs.Paths.{Creates, BeginsThreads}
use Rattle.ca_model.specs.WellFormed.{IsWellFormed}
use Rattle.ca_flow.specs.Graphs.{ControlFlow}
use Rattle.ca_flow.specs.Lowerings.{Lowering, IsLowering}
use Rattle.ca_thread.specs.Privates.{IsStart}

same_function : (f g : FunId) → f.0 ≡ g.0 → f ≡ g
same_function f g e = ap (λ (n : ℕ). let h : FunId = record { 0 = n } in h) e

pub in_source : (l : Lowering) (gs : List ControlFlow) → IsLowering l → (f : ℕ) → gs ≡ l.graphs → f < length gs → f < length l.source.functions
in_source l gs is f same less =
    let count : length gs ≡ length l.graphs = ap (λ (hs : List ControlFlow). length hs) same in
    omega (arith, is.graphs.count, count, less)

pub other_starts : (p : Typed) → IsWellFormed p → (t : ℕ) (f main : FunId) → (t ≡ 0 → ⊥) → main ≡ p.main → (f.0 ≡ main.0 → ⊥) → f.0 < length p.functions → (fn : Function) → slice_get p.functions f.0 ≡ Some fn → BeginsThreads p fn → IsStart p t f
other_starts p formed t f main not is apart lt fn at begins =
    let number : fn.id.0 ≡ f.0 = formed.functions f.0 fn at in
    record {
      known = lt;
      first = λ z. absurd (not z);
      other = λ no. elim begins [
        | inl it ↦ absurd (apart (sym number ∙ ap (λ (g : FunId). g.0) (it ∙ sym is)))
        | inr x ↦ (x.0, x.1, subst (Creates x.0.act) (same_function fn.id f number) x.2)
      ];
    }
