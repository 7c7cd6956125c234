-- The events of an item ask with its site numbers in ascending order.
use Rattle.std.proofs.Common.{◌≡◌, ◌<◌, ◌≤◌, ℕ, ◌+◌, Bool, true, false, List, [], ◌∷◌, ◌++◌, Option, Some, None, refl, sym, ap, ◌∙◌, subst, arith}
use Rattle.ca_tree.specs.declared.numbers.SiteId.{SiteId}
use Rattle.ca_model.specs.declared.values.Value.{Value}
use Rattle.ca_model.specs.declared.tree.Exp.{Exp, roll-Exp}
use Rattle.ca_model.specs.declared.tree.Exp.TheOpen.{Exp-F, Place-F}
use Rattle.ca_model.specs.declared.tree.Place.{Place, roll-Place, map-Place}
use Rattle.ca_model.specs.Arith.{truth}
use Rattle.ca_model.specs.Asks.{Want, Got, Is, Wants, No_result, Asks, then, ◌>>=◌, give, ask, result}
use Rattle.ca_model.specs.Eval.{Part, Spot, part, spot, exp_run, exp_sites, place_run, index_run, index_sites, place_step, unless, flag, access, site_at}
use Rattle.ca_model.specs.Hardened.{site_of}
use Rattle.ca_model.specs.Laws.{Extended, InOrder, OnWants, AsksOnly}
use Rattle.ca_model.specs.Numbering.{IsLater, AsksAscending}
use Rattle.ca_model.proofs.Numbers.{level, index_part}
use Rattle.ca_model.proofs.Answered.{keeps_give, keeps_ask, keeps_result, keeps_then}
use Rattle.ca_model.proofs.Induction.{Held, Held_index, Held_place, exp_ind, place_ind, part_roll, spot_roll}

-- the site, if any, is one of the n that are numbered from s on
abbrev pub IsWithin : ℕ → ℕ → Option SiteId → Type 0
IsWithin s n None = Unit {0}
IsWithin s n (Some i) = (s ≤ i.0) × (i.0 < s + n)

abbrev pub AsksWithin : ℕ → ℕ → Want → Type 0
AsksWithin s n w = IsWithin s n (site_of w)

-- a part with n sites, numbered from s on: it takes its answers in order, and asks with its sites in ascending order
pub record Ascends {A : Type 0} (s n : ℕ) (p : Asks A) : Type 0 where
  pub order : InOrder p
  pub within : AsksOnly (AsksWithin s n) p
  pub ascending : AsksAscending p

within_more : (s n s' n' : ℕ) (o : Option SiteId) → s ≤ s' → s' + n' ≤ s + n → IsWithin s' n' o → IsWithin s n o
within_more s n s' n' None a b h = tt
within_more s n s' n' (Some i) a b h = (omega (arith, h.0, a), omega (arith, h.1, b))

wants_more : {A : Type 0} (s n s' n' : ℕ) (g : Got A) → s ≤ s' → s' + n' ≤ s + n → OnWants (AsksWithin s' n') g → OnWants (AsksWithin s n) g
wants_more s n s' n' (Is x rest) a b h = tt
wants_more s n s' n' (Wants w) a b h = within_more s n s' n' (site_of w) a b h
wants_more s n s' n' No_result a b h = tt

later : (s n s' n' : ℕ) (o p : Option SiteId) → s + n ≤ s' → IsWithin s n o → IsWithin s' n' p → IsLater o p
later s n s' n' None p le a b = tt
later s n s' n' (Some i) None le a b = tt
later s n s' n' (Some i) (Some j) le a b = omega (arith, le, a.1, b.0)

then_within : {A B : Type 0} (s n s' n' m : ℕ) (g : Got A) (go : A → Asks B) → s' ≡ s + n → m ≡ n + n' → OnWants (AsksWithin s n) g → ((x : A) → Ascends s' n' (go x)) → OnWants (AsksWithin s m) (then g go)
then_within s n s' n' m (Is x rest) go a b h k = wants_more s m s' n' (go x rest) (omega (arith, a)) (omega (arith, a, b)) ((k x).within rest)
then_within s n s' n' m (Wants w) go a b h k = within_more s m s n (site_of w) (omega arith) (omega (arith, b)) h
then_within s n s' n' m No_result go a b h k = tt

-- what is wanted after one more answer: of the same part, or of the next one
after_part : {A B : Type 0} (s n s' n' : ℕ) (g : Got A) (go : A → Asks B) (w v : Want) → s' ≡ s + n → AsksWithin s n w → (g ≡ Wants v → IsLater (site_of w) (site_of v)) → ((x : A) → Ascends s' n' (go x))
    → then g go ≡ Wants v → IsLater (site_of w) (site_of v)
after_part s n s' n' (Is x rest) go w v a b same k is = later s n s' n' (site_of w) (site_of v) (omega (arith, a)) b (subst (OnWants (AsksWithin s' n')) is ((k x).within rest))
after_part s n s' n' (Wants u) go w v a b same k is = same (cc)
after_part s n s' n' No_result go w v a b same k is = cc

then_ascending : {A B : Type 0} (s n s' n' : ℕ) (p : Asks A) (go : A → Asks B) (xs more : List Value) (x : Value) (w v : Want) (g : Got A) → s' ≡ s + n → Ascends s n p → ((y : A) → Ascends s' n' (go y))
    → p xs ≡ g → then g go ≡ Wants w → then (p (xs ++ x ∷ more)) go ≡ Wants v → IsLater (site_of w) (site_of v)
then_ascending s n s' n' p go xs more x w v (Is y rest) a h k at first second =
    let longer : p (xs ++ x ∷ more) ≡ Is y (rest ++ x ∷ more) = subst (λ g. Extended g (x ∷ more) (p (xs ++ x ∷ more))) at (h.order.more xs (x ∷ more)) in
    (k y).ascending rest more x w v first (ap (λ g. then g go) (sym longer) ∙ second)
then_ascending s n s' n' p go xs more x w v (Wants u) a h k at first second =
    let same : p xs ≡ Wants w = cc in
    after_part s n s' n' (p (xs ++ x ∷ more)) go w v a (subst (OnWants (AsksWithin s n)) same (h.within xs)) (h.ascending xs more x w v same) k second
then_ascending s n s' n' p go xs more x w v No_result a h k at first second = cc

-- one part and then the next
pub ascends_then : {A B : Type 0} {s n s' n' m : ℕ} (p : Asks A) (go : A → Asks B) → Ascends s n p → ((x : A) → Ascends s' n' (go x)) → s' ≡ s + n → m ≡ n + n' → Ascends s m (p >>= go)
ascends_then {s = s} {n = n} {s' = s'} {n' = n'} {m = m} p go h k a b = record {
  order = keeps_then p go h.order (λ x. (k x).order);
  within = λ xs. then_within s n s' n' m (p xs) go a b (h.within xs) k;
  ascending = λ xs more x w v first second. then_ascending s n s' n' p go xs more x w v (p xs) a h k refl first second;
}

-- a part without a site
pub ascends_give : {A : Type 0} (s n : ℕ) (x : A) → Ascends s n (give x)
ascends_give s n x = record { order = keeps_give x; within = λ xs. tt; ascending = λ xs more y w v first second. cc }

pub ascends_result : {A : Type 0} (s n : ℕ) (o : Option A) → Ascends s n (result o)
ascends_result s n None = record { order = keeps_result None; within = λ xs. tt; ascending = λ xs more y w v first second. cc }
ascends_result s n (Some x) = ascends_give s n x

ask_within : (s n : ℕ) (w : Want) → AsksWithin s n w → AsksOnly (AsksWithin s n) (ask w)
ask_within s n w h [] = h
ask_within s n w h (x ∷ xs) = tt

ask_once : (w : Want) → AsksAscending (ask w)
ask_once w [] more x u v first second = cc
ask_once w (y ∷ xs) more x u v first second = cc

pub ascends_ask : (s n : ℕ) (w : Want) → AsksWithin s n w → Ascends s n (ask w)
ascends_ask s n w h = record { order = keeps_ask w; within = ask_within s n w h; ascending = ask_once w }

ascends_unless : (b c : Bool) (s n : ℕ) (p : Asks Value) → Ascends s n p → Ascends s n (unless b c p)
ascends_unless true c s n p h = ascends_give s n _
ascends_unless false c s n p h = ascends_then p (λ y. give (flag (truth y))) h (λ y. ascends_give (s + n) 0 _) refl (omega arith)

-- an access is one site, where it goes through a pointer or index
pub access_within : (t : Bool) (s : ℕ) → IsWithin s (access t) (site_at t s)
access_within true s = (omega arith, omega arith)
access_within false s = tt

-- expressions
abbrev GoodExp : Exp → Type 0
GoodExp x = (l : List Value) (s : ℕ) → Ascends s (part x).sites ((part x).run l s)

abbrev GoodPlace : Place → Type 0
GoodPlace p = (l : List Value) (s : ℕ) → Ascends s (spot p).sites ((spot p).run l s)

exp_good : (x : Exp-F Exp Place) → Held GoodExp GoodPlace x → (l : List Value) (s : ℕ) → Ascends s (exp_sites (level x)) (exp_run (level x) l s)
exp_good (Exp-F.Num n) h l s = ascends_give s 0 _
exp_good Exp-F.Null h l s = ascends_give s 0 _
exp_good (Exp-F.Local x) h l s = ascends_give s 0 _
exp_good (Exp-F.Global g) h l s = ascends_give s 0 _
exp_good (Exp-F.Load p k) h l s = ascends_then _ _ (h l s) (λ at. ascends_ask (s + (spot p).sites) (access (spot p).through) _ (access_within (spot p).through (s + (spot p).sites))) refl refl
exp_good (Exp-F.AddressOf p) h l s = ascends_then _ _ (h l s) (λ at. ascends_result (s + (spot p).sites) 0 _) refl (omega arith)
exp_good (Exp-F.Negate a) h l s = ascends_then _ _ (h l s) (λ x. ascends_result (s + (part a).sites) 0 _) refl (omega arith)
exp_good (Exp-F.Not a) h l s = ascends_then _ _ (h l s) (λ x. ascends_give (s + (part a).sites) 0 _) refl (omega arith)
exp_good (Exp-F.Binary o a b) h l s =
    ascends_then _ _ (h.0 l s) (λ x. ascends_then {m = (part b).sites} _ _ (h.1 l (s + (part a).sites)) (λ y. ascends_result (s + (part a).sites + (part b).sites) 0 _) refl (omega arith)) refl refl
exp_good (Exp-F.And a b) h l s = ascends_then _ _ (h.0 l s) (λ x. ascends_unless _ _ (s + (part a).sites) (part b).sites _ (h.1 l _)) refl refl
exp_good (Exp-F.Or a b) h l s = ascends_then _ _ (h.0 l s) (λ x. ascends_unless _ _ (s + (part a).sites) (part b).sites _ (h.1 l _)) refl refl

index_good : (i : Option (Exp × ℕ)) (f : ℕ) (t : Bool) (b : Exp) → Held_index GoodExp GoodPlace i → (l : List Value) (s : ℕ) → Ascends s (index_sites (index_part i f t b)) (index_run (index_part i f t b) l s)
index_good None f t b h l s = ascends_give s 0 _
index_good (Some i) f t b h l s = ascends_then _ _ (h l s) (λ x. ascends_give (s + (part i.0).sites) 0 _) refl (omega arith)

place_good : (p : Place-F Exp Place) → Held_place GoodExp GoodPlace p → (l : List Value) (s : ℕ)
    → Ascends s (place_step (map-Place Exp Place Part Spot part spot p)).sites (place_run (map-Place Exp Place Part Spot part spot p) l s)
place_good p h l s =
    let n : ℕ = index_sites (index_part p.index p.field p.through p.base) in
    ascends_then _ _ (h.0 l s) (λ x. ascends_then {m = n} _ _ (index_good p.index p.field p.through p.base h.1 l (s + (part p.base).sites)) (λ i. ascends_give (s + (part p.base).sites + n) 0 _) refl (omega arith)) refl refl

exp_roll : (x : Exp-F Exp Place) → Held GoodExp GoodPlace x → GoodExp (roll-Exp x)
exp_roll x h l s = subst (λ p. Ascends s p.sites (p.run l s)) (sym (part_roll x)) (exp_good x h l s)

place_roll : (p : Place-F Exp Place) → Held_place GoodExp GoodPlace p → GoodPlace (roll-Place p)
place_roll p h l s = subst (λ q. Ascends s q.sites (q.run l s)) (sym (spot_roll p)) (place_good p h l s)

pub exp_ascends : (x : Exp) → GoodExp x
exp_ascends = exp_ind GoodExp GoodPlace exp_roll place_roll

pub place_ascends : (p : Place) → GoodPlace p
place_ascends = place_ind GoodExp GoodPlace exp_roll place_roll
