-- What an instruction wants, by its kind.
use Rattle.std.proofs.Common.{◌≡◌, Bool, true, false, List, [], ◌∷◌, Option, Some, None, refl, subst}
use Rattle.std.specs.Prelude.{MatchBool}
use Rattle.ca_model.specs.declared.values.Value.{Value}
use Rattle.ca_model.specs.Asks.{Want, Wants, Asks, then, ◌>>◌, ask, result}
use Rattle.ca_model.specs.Arith.{truth}
use Rattle.ca_model.specs.Destroying.{ends_item}
use Rattle.ca_flow.specs.declared.instr.Instr.{Instr}
use Rattle.ca_flow.specs.declared.instr.Instr.TheVariants as instr
use Rattle.ca_flow.specs.Instructions.{on, reg}
use Rattle.ca_flow.specs.Kinds.{AlwaysWants, NeverWants, is_acquisition, destroys_by_kind, acquires_by_kind}

abbrev Ended : Type 0
Ended = List Value × Bool

module _ (is : Want → Bool) where
  -- what a part without a want, and one with a single want, want
  calm : (o : Option Value) (f : Value → List Value) (xs : List Value) (w : Want) → then {B = Ended} (result o xs) (λ x. on (f x)) ≡ Wants w → is w ≡ false
  calm None f xs w h = absurd cc
  calm (Some x) f xs w h = absurd cc

  asked : (v : Want) (f : Value → List Value) (xs : List Value) (w : Want) → is v ≡ false → then {B = Ended} (ask v xs) (λ x. on (f x)) ≡ Wants w → is w ≡ false
  asked v f [] w no' h = let same : v ≡ w = cc in subst (λ u. is u ≡ false) same no'
  asked v f (x ∷ xs) w no' h = absurd cc

  -- an assertion wants something only where it fails
  fails : (b : Bool) (v : Want) (r xs : List Value) (w : Want) → is v ≡ false → (elim b as (λ z. Asks Ended) [ true ↦ on r | false ↦ ask v >> on r ]) xs ≡ Wants w → is w ≡ false
  fails true v r xs w no' h = absurd cc
  fails false v r xs w no' h = asked v (λ x. r) xs w no' h

pub destroying : (x : Instr) → MatchBool (destroys_by_kind x) (AlwaysWants ends_item x) (NeverWants ends_item x)
destroying (instr.Put to x) = λ i r xs w h. absurd cc
destroying (instr.Copy to a) = λ i r xs w h. absurd cc
destroying (instr.Negate to a) = λ i r xs w h. calm ends_item _ _ xs w h
destroying (instr.Not to a) = λ i r xs w h. absurd cc
destroying (instr.Binary to o a b) = λ i r xs w h. calm ends_item _ _ xs w h
destroying (instr.Displace to b index field) = λ i r xs w h. calm ends_item _ _ xs w h
destroying (instr.Load to b index field k at) = λ i r xs w h. asked ends_item _ _ xs w refl h
destroying (instr.Store a b index field at) = λ i r. (_, refl, refl)
destroying (instr.Lock m at acquiring) = λ i r xs w h. asked ends_item _ _ xs w refl h
destroying (instr.Unlock m) = λ i r. (_, refl, refl)
destroying (instr.Malloc to c n acquiring) = λ i r xs w h. asked ends_item _ _ xs w refl h
destroying (instr.Free a at) = λ i r. (_, refl, refl)
destroying (instr.Print t xs) = λ i r. (_, refl, refl)
destroying (instr.Create to f a) = λ i r. (_, refl, refl)
destroying (instr.Join a) = λ i r. (_, refl, refl)
destroying (instr.Assert a at) = λ i r xs w h. fails ends_item (truth (reg r a)) _ r xs w refl h
destroying (instr.Call to f xs) = λ i r. (_, refl, refl)
destroying (instr.Branch a) = λ i r xs w h. absurd cc
destroying instr.Turn = λ i r xs w h. asked ends_item _ _ xs w refl h
destroying instr.Save = λ i r xs w h. asked ends_item _ _ xs w refl h
destroying (instr.Return a) = λ i r. (_, refl, refl)

pub acquired : (x : Instr) → MatchBool (acquires_by_kind x) (AlwaysWants is_acquisition x) (NeverWants is_acquisition x)
acquired (instr.Put to x) = λ i r xs w h. absurd cc
acquired (instr.Copy to a) = λ i r xs w h. absurd cc
acquired (instr.Negate to a) = λ i r xs w h. calm is_acquisition _ _ xs w h
acquired (instr.Not to a) = λ i r xs w h. absurd cc
acquired (instr.Binary to o a b) = λ i r xs w h. calm is_acquisition _ _ xs w h
acquired (instr.Displace to b index field) = λ i r xs w h. calm is_acquisition _ _ xs w h
acquired (instr.Load to b index field k at) = λ i r xs w h. asked is_acquisition _ _ xs w refl h
acquired (instr.Store a b index field at) = λ i r xs w h. asked is_acquisition _ _ xs w refl h
acquired (instr.Lock m at acquiring) = λ i r. (_, refl, refl)
acquired (instr.Unlock m) = λ i r xs w h. asked is_acquisition _ _ xs w refl h
acquired (instr.Malloc to c n acquiring) = λ i r. (_, refl, refl)
acquired (instr.Free a at) = λ i r xs w h. asked is_acquisition _ _ xs w refl h
acquired (instr.Print t as') = λ i r xs w h. asked is_acquisition _ _ xs w refl h
acquired (instr.Create to f a) = λ i r xs w h. asked is_acquisition _ _ xs w refl h
acquired (instr.Join a) = λ i r xs w h. asked is_acquisition _ _ xs w refl h
acquired (instr.Assert a at) = λ i r xs w h. fails is_acquisition (truth (reg r a)) _ r xs w refl h
acquired (instr.Call to f as') = λ i r xs w h. asked is_acquisition _ _ xs w refl h
acquired (instr.Branch a) = λ i r xs w h. absurd cc
acquired instr.Turn = λ i r xs w h. asked is_acquisition _ _ xs w refl h
acquired instr.Save = λ i r xs w h. asked is_acquisition _ _ xs w refl h
acquired (instr.Return a) = λ i r xs w h. asked is_acquisition _ _ xs w refl h
