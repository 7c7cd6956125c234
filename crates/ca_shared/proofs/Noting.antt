-- The counts of threads after an entry.
use Rattle.std.proofs.Common.{◌≡◌, ◌<◌, ◌≤◌, ◌+◌, ◌-◌, ℕ, zero, suc, Bool, true, false, cond, List, [], ◌∷◌, length, Option, Some, None, ap, ◌∙◌, arith, get_or}
use Rattle.std.specs.Prelude.{slice_get, slice_set, sum_by, max, unwrap_or, nat_lt}
use Rattle.std.proofs.lemmas.List.Sums.{sum_by-cons}
use Rattle.ca_model.specs.declared.values.EventAct.{EventAct}
use Rattle.ca_model.specs.declared.values.EventAct.TheVariants as act
use Rattle.ca_model.specs.FrameCounts as counted
use Rattle.ca_model.proofs.Law.{one_of}
use Rattle.ca_shared.specs.declared.threads.Depth.{Depth}
use Rattle.ca_shared.specs.declared.threads.Progress.{Progress}
use Rattle.ca_shared.specs.Kept.{depth_of, kept_of, most, noted, noted_at}

-- a change of one thread
pub noted_is : (ps : List Progress) (t : ℕ) (a : EventAct) (place : ℕ) (x : Progress) (d : Depth) → t < length ps → x ≡ get_or ps t x → depth_of d ≡ counted.deeper (depth_of x.depth) a
    → slice_set ps t (record { ended = x.ended; depth = d; last = place }) ≡ noted_at ps t a place
noted_is [] t a place x d lt is deep = absurd (let never : ⊥ = omega (arith, lt) in never)
noted_is (p ∷ ps) zero a place x d lt is deep =
    let at : d ≡ kept_of (counted.deeper (depth_of p.depth) a) = ap kept_of (deep ∙ ap (λ (y : Progress). counted.deeper (depth_of y.depth) a) is) in
    λ i. record { ended = (is i).ended; depth = at i; last = place } ∷ ps
noted_is (p ∷ ps) (suc t) a place x d lt is deep = ap (λ l. p ∷ l) (noted_is ps t a place x d (omega (arith, lt)) is deep)

-- a sum over the threads
pub noted_sum : (f : Progress → ℕ) (ps : List Progress) (t : ℕ) (a : EventAct) (place : ℕ) (x : Progress) → slice_get ps t ≡ Some x → sum_by f (noted_at ps t a place) + f x ≡ sum_by f ps + f (noted x a place)
noted_sum f [] t a place x at = absurd cc
noted_sum f (p ∷ ps) zero a place x at =
    let same : p ≡ x = one_of p x at in
    let one : sum_by f (noted p a place ∷ ps) ≡ f (noted p a place) + sum_by f ps = sum_by-cons f (noted p a place) ps in
    let two : sum_by f (p ∷ ps) ≡ f p + sum_by f ps = sum_by-cons f p ps in
    let three : f p ≡ f x = ap f same in
    let four : f (noted p a place) ≡ f (noted x a place) = ap (λ (y : Progress). f (noted y a place)) same in
    omega (arith, one, two, three, four)
noted_sum f (p ∷ ps) (suc t) a place x at =
    let rest : sum_by f (noted_at ps t a place) + f x ≡ sum_by f ps + f (noted x a place) = noted_sum f ps t a place x at in
    let one : sum_by f (p ∷ noted_at ps t a place) ≡ f p + sum_by f (noted_at ps t a place) = sum_by-cons f p (noted_at ps t a place) in
    let two : sum_by f (p ∷ ps) ≡ f p + sum_by f ps = sum_by-cons f p ps in
    omega (arith, one, two, rest)

-- a part of a sum
pub in_sum : (f : Progress → ℕ) (ps : List Progress) (t : ℕ) (x : Progress) → slice_get ps t ≡ Some x → f x ≤ sum_by f ps
in_sum f [] t x at = absurd cc
in_sum f (p ∷ ps) zero x at =
    let two : sum_by f (p ∷ ps) ≡ f p + sum_by f ps = sum_by-cons f p ps in
    let same : f p ≡ f x = or_same at in
    omega (arith, two, same)
  where
    value : Option Progress → ℕ
    value None = f p
    value (Some y) = f y

    or_same : ◌≡◌ {A = Option Progress} (Some p) (Some x) → f p ≡ f x
    or_same e = ap value e
in_sum f (p ∷ ps) (suc t) x at =
    let two : sum_by f (p ∷ ps) ≡ f p + sum_by f ps = sum_by-cons f p ps in
    let rest : f x ≤ sum_by f ps = in_sum f ps t x at in
    omega (arith, two, rest)

pub now_below : (ps : List Progress) → sum_by (λ x. x.depth.now) ps ≤ sum_by most ps
now_below [] = omega arith
now_below (p ∷ ps) =
    let one : sum_by (λ (x : Progress). x.depth.now) (p ∷ ps) ≡ p.depth.now + sum_by (λ (x : Progress). x.depth.now) ps = sum_by-cons (λ (x : Progress). x.depth.now) p ps in
    let two : sum_by most (p ∷ ps) ≡ most p + sum_by most ps = sum_by-cons most p ps in
    let rest : sum_by (λ (x : Progress). x.depth.now) ps ≤ sum_by most ps = now_below ps in
    let here : p.depth.now ≤ most p = grind arith in
    omega (arith, one, two, rest, here)

-- an entry adds at most one frame to the most that there were
pub one_deeper : (x : Progress) (a : EventAct) (place : ℕ) → most (noted x a place) ≤ most x + 1
one_deeper x (act.Call f) place = grind arith
one_deeper x (act.Return v) place = fewer (nat_lt 1 x.depth.now) x.depth.now (unwrap_or x.depth.saved 0)
  where
    fewer : (b : Bool) (n k : ℕ) → max (cond b (n - 1) n) k ≤ max n k + 1
    fewer true n k = grind arith
    fewer false n k = grind arith
one_deeper x act.End place = grind arith
one_deeper x (act.Fault k) place = grind arith
one_deeper x act.Save place = grind arith
one_deeper x (act.Retry site gs) place = back x.depth.saved x.depth.now
  where
    back : (o : Option ℕ) (n : ℕ) → max (unwrap_or o n) (unwrap_or o 0) ≤ max n (unwrap_or o 0) + 1
    back None n = grind arith
    back (Some k) n = grind arith
one_deeper x a place = grind arith
