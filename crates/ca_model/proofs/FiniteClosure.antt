-- The closure of a finite list under a relation that a test decides, within a finite universe.
use Rattle.std.proofs.Common.{◌≡◌, Bool, true, List, [], ◌∷◌, ◌++◌, sym, subst, inl, inr}
use Rattle.std.specs.Prelude.{Contains, ◌⊎◌, ◌||◌, ◌&&◌, filter}
use Rattle.std.specs.List.{list_any}
use Rattle.std.proofs.lemmas.Bool.{or_cases, and_parts, or_left, or_right, and_from}
use Rattle.std.proofs.lemmas.List.Elements.{Contains-append_left, Contains-append_right, Contains-append_cases}
use Rattle.ca_model.proofs.Members.{in_none}
use Rattle.ca_model.proofs.Members.{in_cons, at_head, at_tail, tested, found, kept, passes}

module _ {A : Type 0} (edge : A → A → Bool) where
  -- whether edges lead from one to another over those of a list alone (Warshall 1962)
  abbrev pub leads : List A → A → A → Bool
  leads [] a b = edge a b
  leads (v ∷ vs) a b = leads vs a b || (leads vs a v && leads vs v b)

  ways : (v : A) (vs : List A) (a b : A) → leads (v ∷ vs) a b ≡ true → (leads vs a b ≡ true) ⊎ ((leads vs a v ≡ true) × (leads vs v b ≡ true))
  ways v vs a b is = elim (or_cases (leads vs a b) (leads vs a v && leads vs v b) is) [
    | inl direct ↦ inl direct
    | inr over ↦ inr (and_parts (leads vs a v) (leads vs v b) over)
  ]

  directly : (v : A) (vs : List A) (a b : A) → leads vs a b ≡ true → leads (v ∷ vs) a b ≡ true
  directly v vs a b is = or_left (leads vs a b) (leads vs a v && leads vs v b) is

  over : (v : A) (vs : List A) (a b : A) → leads vs a v ≡ true → leads vs v b ≡ true → leads (v ∷ vs) a b ≡ true
  over v vs a b p q = or_right (leads vs a b) (leads vs a v && leads vs v b) (and_from (leads vs a v) (leads vs v b) p q)

  by_edge : (vs : List A) (a b : A) → edge a b ≡ true → leads vs a b ≡ true
  by_edge [] a b is = is
  by_edge (v ∷ vs) a b is = directly v vs a b (by_edge vs a b is)

  -- to the first of the list, and from it, the others are enough
  to_first : (v : A) (vs : List A) (a : A) → leads (v ∷ vs) a v ≡ true → leads vs a v ≡ true
  to_first v vs a is = elim (ways v vs a v is) [ inl direct ↦ direct | inr two ↦ two.0 ]

  from_first : (v : A) (vs : List A) (b : A) → leads (v ∷ vs) v b ≡ true → leads vs v b ≡ true
  from_first v vs b is = elim (ways v vs v b is) [ inl direct ↦ direct | inr two ↦ two.1 ]

  pub joined : (vs : List A) (a v b : A) → Contains vs v → leads vs a v ≡ true → leads vs v b ≡ true → leads vs a b ≡ true
  joined [] a v b c p q = absurd (in_none v c)
  joined (w ∷ vs) a v b c p q = elim (in_cons w vs v c) [
    | inl is ↦ over w vs a b (to_first w vs a (subst (λ z. leads (w ∷ vs) a z ≡ true) (sym is) p)) (from_first w vs b (subst (λ z. leads (w ∷ vs) z b ≡ true) (sym is) q))
    | inr more ↦ elim (ways w vs a v p) [
      | inl p' ↦ elim (ways w vs v b q) [
        | inl q' ↦ directly w vs a b (joined vs a v b more p' q')
        | inr q' ↦ over w vs a b (joined vs a v w more p' q'.0) q'.1
      ]
      | inr p' ↦ elim (ways w vs v b q) [
        | inl q' ↦ over w vs a b p'.0 (joined vs w v b more p'.1 q')
        | inr q' ↦ over w vs a b p'.0 q'.1
      ]
    ]
  ]

  -- what holds along edges and from step to step holds wherever they lead
  module _ (Good : A → Type 0) (R : A → A → Type 0) (edges : (a b : A) → Good a → Good b → edge a b ≡ true → R a b) (on : (a b c : A) → R a b → R b c → R a c) where
    pub along : (vs : List A) → ((v : A) → Contains vs v → Good v) → (a b : A) → Good a → Good b → leads vs a b ≡ true → R a b
    along [] good a b ga gb is = edges a b ga gb is
    along (v ∷ vs) good a b ga gb is =
        let rest : (u : A) → Contains vs u → Good u = λ u c. good u (at_tail v vs u c) in
        let gv : Good v = good v (at_head v vs) in
        elim (ways v vs a b is) [
          | inl direct ↦ along vs rest a b ga gb direct
          | inr two ↦ on a v b (along vs rest a v ga gv two.0) (along vs rest v b gv gb two.1)
        ]

  -- some starts, and all to which they lead
  pub closure : List A → List A → List A
  closure universe starts = starts ++ filter (λ b. list_any (λ a. leads universe a b) starts) universe

  pub has_starts : (universe starts : List A) (a : A) → Contains starts a → Contains (closure universe starts) a
  unfolding closure
  has_starts universe starts a c = Contains-append_left starts _ a c

  pub comes : (universe starts : List A) (b : A) → Contains (closure universe starts) b → Contains starts b ⊎ (Contains universe b × ((a : A) × Contains starts a × (leads universe a b ≡ true)))
  unfolding closure
  comes universe starts b c = elim (Contains-append_cases starts _ b c) [
    | inl start ↦ inl start
    | inr more ↦ let h = passes (λ b. list_any (λ a. leads universe a b) starts) universe b more in inr (h.0, found (λ a. leads universe a b) starts h.1)
  ]

  has_led : (universe starts : List A) (a b : A) → Contains starts a → Contains universe b → leads universe a b ≡ true → Contains (closure universe starts) b
  unfolding closure
  has_led universe starts a b start within is =
      Contains-append_right starts _ b (kept (λ b. list_any (λ a. leads universe a b) starts) universe b within (tested (λ a. leads universe a b) starts a start is))

  pub closed : (universe starts : List A) (a b : A) → Contains (closure universe starts) a → Contains universe b → edge a b ≡ true → Contains (closure universe starts) b
  closed universe starts a b c within is = elim (comes universe starts a c) [
    | inl start ↦ has_led universe starts a b start within (by_edge universe a b is)
    | inr led ↦ has_led universe starts led.1.0 b led.1.1 within (joined universe led.1.0 a b led.0 led.1.2 (by_edge universe a b is))
  ]
