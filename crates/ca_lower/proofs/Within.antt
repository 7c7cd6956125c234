-- An item of a typed source is within the limits of lowering.
use Rattle.std.proofs.Common.{rules, ◌≡◌, ℕ, ◌<◌, ◌≤◌, Bool, true, false, List, [], ◌∷◌, ◌++◌, length, Option, Some, None, refl, sym, ap, ◌∙◌, subst, arith}
use Rattle.std.specs.Prelude.{◌&&◌, nat_lt, nat_le, Contains, slice_get}
use Rattle.std.proofs.lemmas.Option.{slice_get_within, get_or_from_slice_get}
use Rattle.ca_tree.specs.declared.numbers.VarId.{VarId}
use Rattle.ca_model.specs.declared.tree.Exp.{Exp, fold-roll-Exp}
use Rattle.ca_model.specs.declared.tree.Exp.TheOpen.{Exp-F}
use Rattle.ca_model.specs.declared.tree.Exp.TheVariants as e
use Rattle.ca_model.specs.declared.tree.Place.{Place}
use Rattle.ca_model.specs.declared.tree.Target.{Target}
use Rattle.ca_model.specs.declared.tree.Target.TheVariants as target
use Rattle.ca_model.specs.declared.tree.Act.{Act}
use Rattle.ca_model.specs.declared.tree.Act.TheVariants as act
use Rattle.ca_model.specs.declared.tree.Function.{Function}
use Rattle.ca_model.specs.Codes.{Typed}
use Rattle.ca_tree.specs.declared.numbers.FunId.{FunId}
use Rattle.ca_model.specs.Bounds.{if_there, has_arguments, target_locals, target_exps, act_exps, act_locals, among, exp_among, place_among, depth, exp_depth, place_depth, takes, IsWithin, IsBounded}
use Rattle.ca_model.proofs.Members.{at_head, at_tail}
use Rattle.ca_lower.specs.Building.{among_place, depth_to}
use Rattle.ca_lower.specs.Acts.{is_shallow, is_shallow_place, are_shallow, fits_target, fits_result, fits_arguments, fits_act}

both_true : (a b : Bool) → a ≡ true → b ≡ true → (a && b) ≡ true
both_true true b h k = k
both_true false b h k = cc

below_true : (a b : ℕ) → a < b → nat_lt a b ≡ true
below_true a b h = search (rules, h)

up_to_true : (a b : ℕ) → a ≤ b → nat_le a b ≡ true
up_to_true a b h = search (rules, h)

module _ (low : ℕ) where
  IsGood : Exp → Type 0
  IsGood x = (among low x ≡ true) × (depth x ≤ 64)

  shallow : (x : Exp) → IsGood x → is_shallow low x ≡ true
  unfolding IsGood
  shallow x h = both_true (among low x) (nat_le (depth x) 64) h.0 (up_to_true (depth x) 64 h.1)

  shallow_place : (p : Place) → IsGood (e.AddressOf p) → is_shallow_place low p ≡ true
  unfolding IsGood
  shallow_place p h =
      both_true (among_place low p) (nat_le (depth_to p) 64) (sym (fold-roll-Exp Bool Bool (exp_among low) place_among (Exp-F.AddressOf p)) ∙ (ap (among low) (e.rolls-AddressOf p) ∙ h.0))
      (up_to_true (depth_to p) 64 (subst (λ n. n ≤ 64) (sym (ap depth (e.rolls-AddressOf p)) ∙ fold-roll-Exp ℕ ℕ exp_depth place_depth (Exp-F.AddressOf p)) h.1))

  all_shallow : (es : List Exp) → ((x : Exp) → Contains es x → IsGood x) → are_shallow low es ≡ true
  all_shallow [] h = refl
  all_shallow (x ∷ es) h = both_true (is_shallow low x) (are_shallow low es) (shallow x (h x (at_head x es))) (all_shallow es (λ y c. h y (at_tail x es y c)))

  target_fits : (t : Target) (more : List Exp) → ((x : VarId) → Contains (target_locals t) x → x.0 < low) → ((x : Exp) → Contains (target_exps t ++ more) x → IsGood x) → fits_target low t ≡ true
  target_fits (target.Local x) more sets reads = below_true x.0 low (sets x (at_head x []))
  target_fits (target.Place p) more sets reads = shallow_place p (reads (e.AddressOf p) (at_head (e.AddressOf p) more))

  behind_target : (t : Target) (x : Exp) → Contains (target_exps t ++ x ∷ []) x
  behind_target (target.Local y) x = at_head x []
  behind_target (target.Place p) x = at_tail (e.AddressOf p) (x ∷ []) x (at_head x [])

  result_fits : (o : Option VarId) → ((x : VarId) → Contains (if_there o) x → x.0 < low) → fits_result low o ≡ true
  result_fits None sets = refl
  result_fits (Some x) sets = below_true x.0 low (sets x (at_head x []))

  target_act_fits : (t : Target) (x : Exp) → ((y : VarId) → Contains (target_locals t) y → y.0 < low) → ((y : Exp) → Contains (target_exps t ++ x ∷ []) y → IsGood y) → (fits_target low t && is_shallow low x) ≡ true
  target_act_fits t x sets reads = both_true (fits_target low t) (is_shallow low x) (target_fits t (x ∷ []) sets reads) (shallow x (reads x (behind_target t x)))

  arguments_fit : (es : List Exp) → length es ≤ 16 → ((x : Exp) → Contains es x → IsGood x) → fits_arguments low es ≡ true
  arguments_fit es few reads = both_true (are_shallow low es) (nat_le (length es) 16) (all_shallow es reads) (up_to_true (length es) 16 few)

  act_fits : (a : Act) → ((x : VarId) → Contains (act_locals a) x → x.0 < low) → ((x : Exp) → Contains (act_exps a) x → IsGood x) → ((x : Option VarId) (f : _) (es : List Exp) → a ≡ act.Call x f es → length es ≤ 16) → ((t : _) (es : List Exp) → a ≡ act.Print t es → (nat_le (length t) 256 && nat_le (length es) 8) ≡ true) → fits_act low a ≡ true
  act_fits (act.Zero x) sets reads calls prints = below_true x.0 low (sets x (at_head x []))
  act_fits (act.Set t x) sets reads calls prints = target_act_fits t x sets reads
  act_fits (act.Update t o x) sets reads calls prints = target_act_fits t x sets reads
  act_fits (act.Malloc t x n) sets reads calls prints = target_act_fits t x sets reads
  act_fits (act.Call x f es) sets reads calls prints = both_true (fits_result low x) (fits_arguments low es) (result_fits x sets) (arguments_fit es (calls x f es refl) reads)
  act_fits (act.Lock m) sets reads calls prints = refl
  act_fits (act.Unlock m) sets reads calls prints = refl
  act_fits (act.Create x f y) sets reads calls prints = both_true (nat_lt x.0 low) (is_shallow low y) (below_true x.0 low (sets x (at_head x []))) (shallow y (reads y (at_head y [])))
  act_fits (act.Join y) sets reads calls prints = shallow y (reads y (at_head y []))
  act_fits (act.Free y) sets reads calls prints = shallow y (reads y (at_head y []))
  act_fits (act.Assert y) sets reads calls prints = shallow y (reads y (at_head y []))
  act_fits (act.Print t es) sets reads calls prints = both_true (are_shallow low es) (nat_le (length t) 256 && nat_le (length es) 8) (all_shallow es reads) (prints t es refl)
  act_fits (act.Return None) sets reads calls prints = refl
  act_fits (act.Return (Some y)) sets reads calls prints = shallow y (reads y (at_head y []))
  act_fits (act.Cond y) sets reads calls prints = shallow y (reads y (at_head y []))
  act_fits act.Close sets reads calls prints = refl

-- as many arguments as the function called has parameters
few_arguments : (p : Typed) (o : Option Function) (n : ℕ) → ((f : Function) → o ≡ Some f → f.parameters ≤ 16) → takes o n ≡ true → n ≤ 16
few_arguments p None n few h = cc
few_arguments p (Some f) n few h = let same : f.parameters ≡ n = search (rules, h) in let le = few f refl in omega (arith, same, le)

left_true : (a b : Bool) → (a && b) ≡ true → a ≡ true
left_true true b h = refl
left_true false b h = h

right_true : (a b : Bool) → (a && b) ≡ true → b ≡ true
right_true true b h = h
right_true false b h = cc

call_few : (p : Typed) (f : Function) (a : Act) → IsBounded p → IsWithin p f a → (x : Option VarId) (g : FunId) (es : List Exp) → a ≡ act.Call x g es → length es ≤ 16
call_few p f a bounded within x g es is =
    few_arguments p (slice_get p.functions g.0) (length es) (λ h at. (bounded.locals h (g.0, slice_get_within p.functions g.0 h at, get_or_from_slice_get p.functions g.0 h h at)).0) (subst (λ a. has_arguments p a ≡ true) is within.arguments)

print_few : (p : Typed) (f : Function) (a : Act) → IsWithin p f a → (t : List ℕ) (es : List Exp) → a ≡ act.Print t es → (nat_le (length t) 256 && nat_le (length es) 8) ≡ true
print_few p f a within t es is = subst (λ a. has_arguments p a ≡ true) is within.arguments

pub within_fits : (p : Typed) (f : Function) (a : Act) → IsBounded p → IsWithin p f a → fits_act f.locals a ≡ true
unfolding IsGood
within_fits p f a bounded within = act_fits f.locals a within.sets (λ x c. (within.reads x c, within.shallow x c)) (call_few p f a bounded within) (print_few p f a within)
