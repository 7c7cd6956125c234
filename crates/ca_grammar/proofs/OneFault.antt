-- Tokens that are a text have no fault, and others at most one, whatever the texts are.
use Rattle.std.proofs.Common.{◌≡◌, ◌⊎◌, inl, inr, ℕ, ◌<◌, ◌≤◌, ◌+◌, Bool, true, false, ◌||◌, ◌==◌, List, [], ◌∷◌, ◌++◌, length, Option, Some, if◌then◌else◌, nat_lt, arith, refl, sym, ap, subst, ◌∙◌, append_assoc}
use Rattle.std.proofs.lemmas.Bool.{lt-ltb, ltb-true, cases_order}
use Rattle.std.proofs.lemmas.List.{length-append}
use Rattle.ca_tree.specs.declared.text.Pos.{Pos}
use Rattle.ca_tree.specs.declared.token.Token.{Token}
use Rattle.ca_tree.specs.declared.counted.Counted.TheVariants as counted
use Rattle.ca_grammar.specs.declared.faults.ReadKind.{ReadKind}
use Rattle.ca_grammar.specs.declared.faults.ReadFault.{ReadFault}
use Rattle.ca_grammar.specs.Limits.{Rule, Limit, Depth, Star, Limits, the_limits, no_rules, only, order, Allowed, kept}
use Rattle.ca_grammar.specs.Faults.{first, latest, Begins, GoesOn, is_name, kind_at, kind_of, place_of, IsUnknown, IsBroken}
use Rattle.ca_grammar.specs.Laws.{AllowsMore, all_kept, Spreads, NoFault, OneFault}
use Rattle.ca_grammar.proofs.WeakerLimits.{Weaker, weaker_none, weaker_only}

-- ---- what is allowed under weaker limits

or_weaker : (a b c d : Bool) → (a ≡ true → c ≡ true) → (b ≡ true → d ≡ true) → (a || b) ≡ true → (c || d) ≡ true
or_weaker true b c d f g h = ap (λ x. x || d) (f refl)
or_weaker false b true d f g h = refl
or_weaker false b false d f g h = g h

lt_more : (n k j : ℕ) → k ≤ j → nat_lt n k ≡ true → nat_lt n j ≡ true
lt_more n k j l h = lt-ltb n j (omega (arith, l, ltb-true n k h))

-- what is allowed is so under weaker limits that are counted for fewer tokens
pub allows_more : (limits weak : Limits) (k j : ℕ) → Weaker limits weak → k ≤ j → AllowsMore (kept limits k) (kept weak j)
allows_more limits weak k j w l (Limit of) n ts h = or_weaker _ _ _ _ (lt_more (length ts) k j l) (w (Limit of) n) h
allows_more limits weak k j w l Depth n ts h = w Depth n h
allows_more limits weak k j w l Star n ts h = w Star n h

same_limits : (limits : Limits) → Weaker limits limits
same_limits limits r n h = h

-- ---- a text that goes on within the limits refutes a fault

goes_on_more : (texts : Allowed → List Token → Type 0) → Spreads texts → (limits weak : Limits) → Weaker limits weak → (front rest : List Token) → GoesOn texts limits front rest → GoesOn texts weak front rest
goes_on_more texts s limits weak w front rest g =
    (g.0, g.1, s (kept limits (length g.0)) (kept weak (length g.0)) (front ++ g.0) (allows_more limits weak (length g.0) (length g.0) w (omega arith)) g.2)

abbrev Cause : (Allowed → List Token → Type 0) → (front rest : List Token) → ReadFault → Type 0
Cause texts front rest f = IsUnknown texts front rest f ⊎ IsBroken texts front rest f

refuted : (texts : Allowed → List Token → Type 0) → Spreads texts → (front rest : List Token) (f : ReadFault) → Cause texts front rest f → GoesOn texts the_limits front rest → ⊥
refuted texts s front rest f (inl u) g = u.unknown (goes_on_more texts s the_limits no_rules (weaker_none the_limits) front rest g)
refuted texts s front rest f (inr b) g = b.broken (goes_on_more texts s the_limits (only b.rule) (weaker_only b.rule) front rest g)

pub no_fault : NoFault
no_fault texts s ts f h d =
    refuted texts s d.front d.rest f d.cause
    (d.rest, refl, s all_kept (kept the_limits (length d.rest)) (d.front ++ d.rest) (allows_more the_limits the_limits 0 (length d.rest) (same_limits the_limits) (omega arith)) (subst (λ us. texts all_kept us) d.parts h))

-- ---- two ways to part the same tokens

-- the second front goes on behind the first with the token that follows it
abbrev Longer : (front rest longer : List Token) → Type 0
Longer front rest longer = (u : Token) × (mid : List Token) × (longer ≡ front ++ (u ∷ mid)) × (first rest ≡ Some u)

abbrev Compared : (xs us ys vs : List Token) → Type 0
Compared xs us ys vs = Longer xs us ys ⊎ (Longer ys vs xs ⊎ ((xs ≡ ys) × (us ≡ vs)))

same_cons : {x y : Token} {xs ys : List Token} → x ≡ y → xs ≡ ys → x ∷ xs ≡ y ∷ ys
same_cons e h = cc

longer_behind : (x y : Token) (xs us ys : List Token) → y ≡ x → Longer xs us ys → Longer (x ∷ xs) us (y ∷ ys)
longer_behind x y xs us ys e l = (l.0, l.1, same_cons e l.2, l.3)

compared_behind : (x y : Token) (xs us ys vs : List Token) → x ≡ y → Compared xs us ys vs → Compared (x ∷ xs) us (y ∷ ys) vs
compared_behind x y xs us ys vs e (inl l) = inl (longer_behind x y xs us ys (sym e) l)
compared_behind x y xs us ys vs e (inr (inl l)) = inr (inl (longer_behind y x ys vs xs e l))
compared_behind x y xs us ys vs e (inr (inr p)) = inr (inr (same_cons e p.0, p.1))

-- one front goes on behind the other, or they are equal
compared : (xs us ys vs : List Token) → xs ++ us ≡ ys ++ vs → Compared xs us ys vs
compared [] us [] vs h = inr (inr (refl, h))
compared [] us (y ∷ ys) vs h = inl (y, ys, refl, ap first h)
compared (x ∷ xs) us [] vs h = inr (inl (x, xs, refl, ap first (sym h)))
compared (x ∷ xs) us (y ∷ ys) vs h =
    let e : x ≡ y = cc in
    let i : xs ++ us ≡ ys ++ vs = cc in
    compared_behind x y xs us ys vs e (compared xs us ys vs i)

-- a text that begins with a longer front goes on behind the shorter one
passed : (texts : Allowed → List Token → Type 0) → Spreads texts → (front rest longer : List Token) → Longer front rest longer → Begins texts the_limits longer → GoesOn texts the_limits front rest
passed texts s front rest longer l b =
    let more : List Token = l.0 ∷ (l.1 ++ b.0) in
    let same : longer ++ b.0 ≡ front ++ more = ap (λ (x : List Token). x ++ b.0) l.2 ∙ append_assoc front (l.0 ∷ l.1) b.0 in
    let fewer : length b.0 + 1 ≤ length more = omega (arith, length-append l.1 b.0) in (
      more,
      sym l.3,
      s (kept the_limits (length b.0 + 1)) (kept the_limits (length more)) (front ++ more) (allows_more the_limits the_limits (length b.0 + 1) (length more) (same_limits the_limits) fewer)
          (subst (λ us. texts (kept the_limits (length b.0 + 1)) us) same b.1),
    )

-- ---- one fault behind one front

-- the rule of each order
abbrev rule_of : ℕ → Rule
rule_of n =
    if n == 0 then Limit counted.Items
    else if n == 1 then Limit counted.Functions
    else if n == 2 then Limit counted.Globals
    else if n == 3 then Limit counted.Mutexes
    else if n == 4 then Limit counted.Structs
    else if n == 5 then Limit counted.Fields
    else if n == 6 then Limit counted.Parameters
    else if n == 7 then Limit counted.Arguments
    else if n == 8 then Limit counted.Nesting
    else if n == 9 then Depth
    else if n == 10 then Limit counted.StringBytes
    else if n == 11 then Limit counted.NameBytes
    else Star

rule_of_order : (r : Rule) → rule_of (order r) ≡ r
rule_of_order (Limit counted.Items) = refl
rule_of_order (Limit counted.Functions) = refl
rule_of_order (Limit counted.Globals) = refl
rule_of_order (Limit counted.Mutexes) = refl
rule_of_order (Limit counted.Structs) = refl
rule_of_order (Limit counted.Fields) = refl
rule_of_order (Limit counted.Parameters) = refl
rule_of_order (Limit counted.Arguments) = refl
rule_of_order (Limit counted.Nesting) = refl
rule_of_order Depth = refl
rule_of_order (Limit counted.StringBytes) = refl
rule_of_order (Limit counted.NameBytes) = refl
rule_of_order Star = refl

one_rule : (r s : Rule) → order r ≡ order s → r ≡ s
one_rule r s h = sym (rule_of_order r) ∙ ap rule_of h ∙ rule_of_order s

same_place : {o : Option Token} {u v : Token} → o ≡ Some u → o ≡ Some v → u ≡ v
same_place h i = cc

same_fault : (f g : ReadFault) → f.pos ≡ g.pos → f.kind ≡ g.kind → f ≡ g
same_fault f g h i =
    ap (λ (p : Pos). let x : ReadFault = record { pos = p; kind = f.kind } in x) h ∙ ap (λ (k : ReadKind). let x : ReadFault = record { pos = g.pos; kind = k } in x) i

one_cause : (texts : Allowed → List Token → Type 0) (front rest : List Token) (f g : ReadFault) → Cause texts front rest f → Cause texts front rest g → f ≡ g
one_cause texts front rest f g (inl u) (inl v) =
    let e : u.next ≡ v.next = same_place u.at v.at in
    same_fault f g (u.pos ∙ ap (λ (x : Token). x.pos) e ∙ sym v.pos) (u.kind ∙ ap (λ (x : Token). kind_at (is_name (latest front)) x.word) e ∙ sym v.kind)
one_cause texts front rest f g (inl u) (inr b) = absurd (u.unknown b.known)
one_cause texts front rest f g (inr b) (inl u) = absurd (u.unknown b.known)
one_cause texts front rest f g (inr b) (inr c) = by_order (cases_order (order b.rule) (order c.rule))
  where
    by_order : (order b.rule ≡ order c.rule) ⊎ ((order b.rule < order c.rule) ⊎ (order c.rule < order b.rule)) → f ≡ g
    by_order (inl h) =
        let r : b.rule ≡ c.rule = one_rule b.rule c.rule h in
        let e : b.place ≡ c.place = same_place b.at (ap (λ x. place_of x front rest) r ∙ c.at) in
        same_fault f g (b.pos ∙ ap (λ (x : Token). x.pos) e ∙ sym c.pos) (b.kind ∙ ap kind_of r ∙ sym c.kind)
    by_order (inr (inl h)) = absurd (b.broken (c.earlier b.rule h))
    by_order (inr (inr h)) = absurd (c.broken (b.earlier c.rule h))

pub one_fault : OneFault
one_fault texts s ts f g d e = by_front (compared d.front d.rest e.front e.rest (sym d.parts ∙ e.parts))
  where
    by_front : Compared d.front d.rest e.front e.rest → f ≡ g
    by_front (inl l) = absurd (refuted texts s d.front d.rest f d.cause (passed texts s d.front d.rest e.front l e.before))
    by_front (inr (inl l)) = absurd (refuted texts s e.front e.rest g e.cause (passed texts s e.front e.rest d.front l d.before))
    by_front (inr (inr p)) =
        one_cause texts d.front d.rest f g d.cause
        (subst (λ us. Cause texts us d.rest g) (sym p.0) (subst (λ us. Cause texts e.front us g) (sym p.1) e.cause))
