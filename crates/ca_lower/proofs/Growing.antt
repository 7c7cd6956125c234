-- Graphs that grow.
use Rattle.std.proofs.Common.{rules, ◌≡◌, ℕ, zero, suc, ◌+◌, ◌<◌, ◌≤◌, Bool, true, false, List, [], ◌∷◌, ◌++◌, length, Option, Some, None, refl, sym, ap, ◌∙◌, subst, inl, inr, arith, length-append}
use Rattle.std.specs.Prelude.{nat_lt, slice_get, ◌⊎◌}
use Rattle.ca_tree.specs.declared.numbers.ItemId.{ItemId}
use Rattle.ca_model.proofs.Steps.{get_left}
use Rattle.ca_flow.specs.declared.instr.AtSite.{AtSite}
use Rattle.ca_flow.specs.declared.instr.NodeId.{NodeId}
use Rattle.ca_flow.specs.declared.instr.Instr.{Instr}
use Rattle.ca_flow.specs.declared.instr.Instr.TheVariants as instr
use Rattle.ca_flow.specs.declared.instr.Links.{Links}
use Rattle.ca_flow.specs.declared.instr.Links.TheVariants as links
use Rattle.ca_flow.specs.declared.instr.Step.{Step}
use Rattle.ca_flow.specs.Graphs.{link_count, IsLink, AreLinks}
use Rattle.ca_flow.specs.Lowerings.{site_in, IsMarked, HasSite}
use Rattle.ca_flow.specs.Instructions.{site_of}
use Rattle.ca_model.specs.Eval.{access, site_at, site_id}
use Rattle.ca_tree.specs.declared.numbers.SiteId.{SiteId}
use Rattle.ca_lower.specs.declared.builder.Builder.{Builder}
use Rattle.ca_lower.specs.Scopes.{InFunction, InItem, IsInItem}
use Rattle.ca_lower.specs.Lowered.{is_pending, StandsIn}
use Rattle.ca_lower.specs.Building.{code_at, around, IsSiteMark, IsAcquiringMark, HasMarks, LeadBelow, AllMarked, AllDrawn, Grows, HasSites}

pub grows_none : (x : InFunction) (b : Builder) → Grows x b b
grows_none x b = record {
  stands = λ g s. s;
  registers = omega arith;
  narrow = λ n. n;
  longer = omega arith;
  kept = λ n at is. is;
  pending = λ n at is p. is;
  marked = λ h. h;
  drawn = λ h. h;
}

pub grows_on : (x : InFunction) (a b c : Builder) → Grows x a b → Grows x b c → Grows x a c
grows_on x a b c h k = record {
  stands = λ g s. h.stands g (k.stands g s);
  registers = omega (arith, h.registers, k.registers);
  narrow = λ n. k.narrow (h.narrow n);
  longer = omega (arith, h.longer, k.longer);
  kept = λ n at is. k.kept n at (h.kept n at is);
  pending = λ n at is p. h.pending n at (k.pending n at is p) p;
  marked = λ m. k.marked (h.marked m);
  drawn = λ d. k.drawn (h.drawn d);
}

-- ---- one step more

same_some : {A : Type 0} (x y : A) → Some x ≡ Some y → x ≡ y
same_some x y e = cc

pub at_end : {A : Type 0} (xs : List A) (y : A) → slice_get (xs ++ y ∷ []) (length xs) ≡ Some y
at_end [] y = refl
at_end (x ∷ xs) y = at_end xs y

pub old_or_end : {A : Type 0} (xs : List A) (y : A) (n : ℕ) (z : A) → slice_get (xs ++ y ∷ []) n ≡ Some z → (slice_get xs n ≡ Some z) ⊎ ((n ≡ length xs) × (y ≡ z))
old_or_end [] y zero z is = inr (refl, same_some y z is)
old_or_end [] y (suc n) z is = cc
old_or_end (x ∷ xs) y zero z is = inl is
old_or_end (x ∷ xs) y (suc n) z is = elim (old_or_end xs y n z is) [ inl old ↦ inl old | inr new ↦ inr (ap suc new.0, new.1) ]

link_further : (size more n : ℕ) (i : Instr) (m : NodeId) → size ≤ more → IsLink size i n m → IsLink more i n m
link_further size more n i m le h = elim h [ inl below ↦ inl below | inr turn ↦ inr (turn.0, omega (arith, turn.1, le)) ]

pub links_further : (size more n : ℕ) (i : Instr) (l : Links) → size ≤ more → AreLinks size i n l → AreLinks more i n l
links_further size more n i links.Nowhere le h = h
links_further size more n i (links.One m) le h = (h.0, link_further size more n i m le h.1)
links_further size more n i (links.Two one other) le h = (h.0, link_further size more n i one le h.1, link_further size more n i other le h.2)

pub links_below : (size n : ℕ) (i : Instr) (l : Links) → LeadBelow n i l → AreLinks size i n l
links_below size n i links.Nowhere h = h
links_below size n i (links.One m) h = (h.0, inl h.1)
links_below size n i (links.Two one other) h = (h.0, inl h.1, inl h.2)

-- what leads somewhere is no open turn
ends_no_turn : (item : ItemId) (i : Instr) → link_count i ≡ 0 → is_pending (record { node = record { item = item; instr = i }; links = links.Nowhere }) ≡ false
ends_no_turn item instr.Turn h = cc
ends_no_turn item i h = refl

one_is_made : (item : ItemId) (i : Instr) (m : NodeId) → is_pending (record { node = record { item = item; instr = i }; links = links.One m }) ≡ false
one_is_made item instr.Turn m = refl
one_is_made item i m = refl

two_are_made : (item : ItemId) (i : Instr) (one other : NodeId) → is_pending (record { node = record { item = item; instr = i }; links = links.Two one other }) ≡ false
two_are_made item instr.Turn one other = refl
two_are_made item i one other = refl

pub is_made : (n : ℕ) (item : ItemId) (i : Instr) (l : Links) → LeadBelow n i l → is_pending (record { node = record { item = item; instr = i }; links = l }) ≡ false
is_made n item i links.Nowhere h = ends_no_turn item i h
is_made n item i (links.One m) h = one_is_made item i m
is_made n item i (links.Two one other) h = two_are_made item i one other

pub marked_by : (x : InItem) (i : Instr) → IsInItem x → HasMarks x i → IsMarked (code_at x) x.function (record { item = x.item.id; instr = i })
marked_by x i here marks = record {
  item = x.item;
  own = here.1;
  numbered = refl;
  site = λ a is. subst (IsSiteMark (code_at x) x.item) is marks.0;
  acquiring = λ b is. subst (IsAcquiringMark (code_at x) x.item) is marks.1;
  short = marks.2;
}

never : {A : Type 0} → true ≡ false → A
never e = cc

module _ (x : InItem) (old new : Builder) (i : Instr) (l : Links) where
  abbrev step : Step
  step = record { node = record { item = x.item.id; instr = i }; links = l }

  module _ (steps : new.steps.items ≡ old.steps.items ++ step ∷ []) (below : LeadBelow (length old.steps.items) i l) where
    stays : (n : ℕ) (at : Step) → slice_get old.steps.items n ≡ Some at → slice_get new.steps.items n ≡ Some at
    stays n at is = ap (λ g. slice_get g n) steps ∙ get_left old.steps.items (step ∷ []) n at is

    either : (n : ℕ) (at : Step) → slice_get new.steps.items n ≡ Some at → (slice_get old.steps.items n ≡ Some at) ⊎ ((n ≡ length old.steps.items) × (step ≡ at))
    either n at is = old_or_end old.steps.items step n at (sym (ap (λ g. slice_get g n) steps) ∙ is)

    more : length old.steps.items ≤ length new.steps.items
    more = let e : length new.steps.items ≡ length (old.steps.items ++ step ∷ []) = ap length steps in let f = length-append old.steps.items (step ∷ []) in omega (arith, e, f)

    pub pushed : old.registers ≤ new.registers → (old.registers ≤ 256 → new.registers ≤ 256) → IsInItem x → HasMarks x i → Grows (around x) old new
    pushed registers narrow here marks = record {
      stands = λ g s n at is made. s n at (stays n at is) made;
      registers = registers;
      narrow = narrow;
      longer = more;
      kept = stays;
      pending = λ n at is p. elim (either n at is) [ inl was ↦ was | inr end ↦ never (sym p ∙ ap is_pending (sym end.1) ∙ is_made (length old.steps.items) x.item.id i l below) ];
      marked = λ all n at is. elim (either n at is) [ inl was ↦ all n at was | inr end ↦ subst (λ (s : Step). IsMarked (code_at x) x.function s.node) end.1 (marked_by x i here marks) ];
      drawn = λ all n at is made. elim (either n at is) [
        | inl was ↦ links_further (length old.steps.items) (length new.steps.items) n at.node.instr at.links more (all n at was made)
        | inr end ↦
            subst (λ (s : Step). AreLinks (length new.steps.items) s.node.instr n s.links) end.1
            (links_below (length new.steps.items) n i l (subst (λ k. LeadBelow k i l) (sym end.0) below))
      ];
    }

-- ---- sites

pub site_kept : (x : InFunction) (b c : Builder) (s : SiteId) → Grows x b c → HasSite b.steps.items s → HasSite c.steps.items s
site_kept x b c s grows (n, at, a, is, site, same) = (n, at, a, grows.kept n at is, site, same)

pub sites_kept : (x : InFunction) (b c : Builder) (from to : ℕ) → Grows x b c → HasSites b.steps.items from to → HasSites c.steps.items from to
sites_kept x b c from to grows has = record { there = λ s low high. site_kept x b c s grows (has.there s low high) }

below_or_not : (a b : ℕ) (c : Bool) → nat_lt a b ≡ c → (a < b) ⊎ (b ≤ a)
below_or_not a b true h = inl (search (rules, h))
below_or_not a b false h = inr (search (rules, h))

pub lt_or_le : (a b : ℕ) → (a < b) ⊎ (b ≤ a)
lt_or_le a b = below_or_not a b (nat_lt a b) refl

pub sites_joined : (g : List Step) (from mid to : ℕ) → HasSites g from mid → HasSites g mid to → HasSites g from to
sites_joined g from mid to first second = record { there = λ s low high. elim (lt_or_le s.0 mid) [ inl below ↦ first.there s low below | inr above ↦ second.there s above high ] }

-- sites of a part, and then those of a part before it
pub sites_on : (x : InFunction) (b c : Builder) (u t : ℕ) → Grows x b c → u ≡ t → HasSites b.steps.items b.site u → HasSites c.steps.items c.site b.site → HasSites c.steps.items c.site t
sites_on x b c u t grows same first second = sites_joined c.steps.items c.site b.site t second (subst (HasSites c.steps.items b.site) same (sites_kept x b c b.site u grows first))

none_from : (s n : ℕ) → n ≤ s → s < n + 0 → ⊥
none_from s n low high = omega (arith, low, high)

-- the site of one access
one_there : (g : List Step) (through : Bool) (n : ℕ) (at : Step) (m : Option AtSite) (k : ℕ) → slice_get g n ≡ Some at → site_in at.node.instr ≡ m → site_of m ≡ site_at through k → HasSites g k (k + access through)
one_there g false n at m k is site same = record { there = λ s low high. absurd (none_from s.0 k low high) }
one_there g true n at None k is site same = cc
one_there g true n at (Some a) k is site same = record {
  there = λ s low high. let e : s.0 ≡ k = omega (arith, low, high) in (n, at, a, is, site, same_some a.site (site_id k) same ∙ sym (ap site_id e));
}

-- sites of a part that an access ends
pub access_on : (x : InFunction) (b c : Builder) (through : Bool) (n : ℕ) (at : Step) (m : Option AtSite) (k v u t : ℕ) → Grows x b c → slice_get b.steps.items n ≡ Some at → site_in at.node.instr ≡ m → site_of m ≡ site_at through k
    → k ≡ u → t ≡ v + access through → v ≡ k → HasSites c.steps.items c.site u → HasSites c.steps.items c.site t
access_on x b c through n at m k v u t grows is site same e f e' part =
    sites_joined c.steps.items c.site k t (subst (HasSites c.steps.items c.site) (sym e) part)
    (subst (HasSites c.steps.items k) (sym (f ∙ ap (λ j. j + access through) e')) (one_there c.steps.items through n at m k (grows.kept n at is) site same))

-- where a site was taken before
pub grows_from : (x : InFunction) (a b c : Builder) → (b.steps ≡ a.steps) × (b.registers ≡ a.registers) → Grows x b c → Grows x a c
grows_from x a b c same h =
    let steps : b.steps.items ≡ a.steps.items = ap (λ v. v.items) same.0 in
    record {
      stands = λ g s. subst (λ k. StandsIn k g) steps (h.stands g s);
      registers = subst (λ r. r ≤ c.registers) same.1 h.registers;
      narrow = λ n. h.narrow (subst (λ r. r ≤ 256) (sym same.1) n);
      longer = subst (λ k. length k ≤ length c.steps.items) steps h.longer;
      kept = subst (λ k. (n : ℕ) (at : Step) → slice_get k n ≡ Some at → slice_get c.steps.items n ≡ Some at) steps h.kept;
      pending = subst (λ k. (n : ℕ) (at : Step) → slice_get c.steps.items n ≡ Some at → is_pending at ≡ true → slice_get k n ≡ Some at) steps h.pending;
      marked = subst (λ k. AllMarked x k → AllMarked x c.steps.items) steps h.marked;
      drawn = subst (λ k. AllDrawn k → AllDrawn c.steps.items) steps h.drawn;
    }

-- an item's sites are counted down to its first one
pub counted_down : (g : List Step) (from first to : ℕ) → from ≡ first → HasSites g from to → HasSites g first to
counted_down g from first to same has = subst (λ k. HasSites g k to) same has

-- sites of a part that an instruction with a site ends
pub one_on : (x : InFunction) (b c : Builder) (n : ℕ) (at : Step) (m : AtSite) (k v u t : ℕ) → Grows x b c → slice_get b.steps.items n ≡ Some at → site_in at.node.instr ≡ Some m → m.site ≡ site_id k
    → k ≡ u → t ≡ v + 1 → v ≡ k → HasSites c.steps.items c.site u → HasSites c.steps.items c.site t
one_on x b c n at m k v u t grows is site same = access_on x b c true n at (Some m) k v u t grows is site (ap Some same)
