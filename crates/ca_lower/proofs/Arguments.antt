-- Code of arguments, from the last to the first.
use Rattle.std.proofs.Common.{rules, ◌≡◌, ℕ, zero, suc, ◌+◌, ◌<◌, ◌≤◌, true, List, [], ◌∷◌, length, drop, get_or, refl, sym, ap, ◌∙◌, subst, arith}
use Rattle.std.specs.Prelude.{nat_le}
use Rattle.ca_model.specs.declared.tree.Exp.{Exp}
use Rattle.ca_model.specs.Bounds.{among, depth}
use Rattle.ca_model.specs.Eval.{part}
use Rattle.ca_model.specs.Sites.{sites_of_all}
use Rattle.ca_lower.specs.declared.builder.Builder.{Builder}
use Rattle.ca_lower.specs.Scopes.{InItem}
use Rattle.ca_lower.specs.Lowered.{FindsAll}
use Rattle.ca_lower.specs.Building.{code_at, around, Grows, HasSites, AddsFind}
use Rattle.ca_lower.specs.Acts.{is_shallow, are_shallow, AddsFindAll, FindsFrom}
use Rattle.ca_tables.proofs.CountedItems.{from_next}
use Rattle.ca_lower.proofs.Growing.{grows_on, sites_on}
use Rattle.ca_lower.proofs.Added.{home_within}
use Rattle.ca_lower.proofs.ActsAdded.{left_true, right_true}
use Rattle.ca_lower.proofs.CodeOfActs.{finds_one_more}

shallow_at : (low : ℕ) (es : List Exp) (k : ℕ) (e : Exp) → k < length es → e ≡ get_or es k e → are_shallow low es ≡ true → is_shallow low e ≡ true
shallow_at low [] k e lt is h = absurd (let no' : ⊥ = omega (arith, lt) in no')
shallow_at low (x ∷ es) zero e lt is h = ap (is_shallow low) is ∙ left_true (is_shallow low x) (are_shallow low es) h
shallow_at low (x ∷ es) (suc k) e lt is h = shallow_at low es k e (omega (arith, lt)) is (right_true (is_shallow low x) (are_shallow low es) h)

pub among_at : (low : ℕ) (es : List Exp) (k : ℕ) (e : Exp) → k < length es → e ≡ get_or es k e → are_shallow low es ≡ true → among low e ≡ true
among_at low es k e lt is h = left_true (among low e) (nat_le (depth e) 64) (shallow_at low es k e lt is h)

pub shallow_there : (low : ℕ) (es : List Exp) (k : ℕ) (e : Exp) → k < length es → e ≡ get_or es k e → are_shallow low es ≡ true → depth e ≤ 64
shallow_there low es k e lt is h = let t : nat_le (depth e) 64 ≡ true = right_true (among low e) (nat_le (depth e) 64) (shallow_at low es k e lt is h) in search (rules, t)

pub sites_from : (es : List Exp) (k : ℕ) → sites_of_all (drop k es) ≤ sites_of_all es
sites_from [] zero = omega arith
sites_from [] (suc k) = omega arith
sites_from (e ∷ es) zero = omega arith
sites_from (e ∷ es) (suc k) = let more = sites_from es k in omega (arith, more)

pub sites_at : (es : List Exp) (k k' : ℕ) (e : Exp) → k' ≡ k + 1 → k < length es → e ≡ get_or es k e → sites_of_all (drop k es) ≡ (part e).sites + sites_of_all (drop k' es)
sites_at es k k' e next lt is = ap sites_of_all (from_next es k e lt is) ∙ ap (λ j. (part e).sites + sites_of_all (drop j es)) (sym next)

pub one_more_found : (x : InItem) (old mid new : Builder) (n j next free k k' : ℕ) (es : List Exp) (e : Exp) → x.function.locals ≤ free → k' ≡ k + 1 → k < length es → e ≡ get_or es k e → are_shallow x.function.locals es ≡ true
    → FindsFrom x old mid j next free k' es → AddsFind x new n j (free + k) e → Grows (around x) mid new → n < length new.steps.items → mid.site ≡ new.site + (part e).sites → HasSites new.steps.items new.site mid.site
    → FindsFrom x old new n next free k es
one_more_found x old mid new n j next free k k' es e lo after lt is shallow from finds grows entry site sites = record {
  adds = λ g width le stands.
      let low : ℕ = x.function.locals in
      let rest = from.adds g width (omega (arith, le, grows.registers)) (grows.stands g stands) in
      let rest' : FindsAll (code_at x) g low width (free + k + 1) j next (drop (k + 1) es) (new.site + (part e).sites) =
      subst (λ s. FindsAll (code_at x) g low width (free + k + 1) j next (drop (k + 1) es) s) site
      (subst (λ i. FindsAll (code_at x) g low width (free + k + 1) j next (drop i es) mid.site) after
      (subst (λ l. FindsAll (code_at x) g low width l j next (drop k' es) mid.site) (omega (arith, after)) rest)) in
      subst (λ ys. FindsAll (code_at x) g low width (free + k) n next ys new.site) (sym (from_next es k e lt is))
      (finds_one_more (code_at x) g low width (free + k) n j next new.site e (drop (k + 1) es) (omega (arith, lo)) (home_within low (free + k) e (omega (arith, lo)) (among_at low es k e lt is shallow)) (finds g width le stands) rest');
  grows = grows_on (around x) old mid new from.grows grows;
  entry = entry;
  site = let count = sites_at es k k' e after lt is in let before = from.site in omega (arith, count, before, site);
  sites = sites_on (around x) mid new old.site old.site grows refl from.sites sites;
}

pub all_found : (x : InItem) (old new : Builder) (n next free k : ℕ) (es : List Exp) → k ≡ 0 → FindsFrom x old new n next free k es → AddsFindAll x new n next free es
all_found x old new n next free k es none from =
    subst (λ l. AddsFindAll x new n next l es) (omega (arith, none)) (subst (λ j. AddsFindAll x new n next (free + k) (drop j es)) none from.adds)
