-- Events that are compared: equal ones are the same.
use Rattle.std.proofs.Common.{◌≡◌, ℕ, ℤ, Bool, true, false, List, [], ◌∷◌, refl, sym, ap, ◌∙◌, subst}
use Rattle.std.specs.Prelude.{◌&&◌, ◌==◌}
use Rattle.std.specs.Ordering.{int_eq}
use Rattle.std.proofs.lemmas.Bool.{and_parts, and_from, eqb-true, eq-eqb}
use lib.Pointwise.{pointwise}
use Rattle.ca_model.specs.declared.values.Event.{Event}
use Rattle.ca_model.specs.declared.values.EventAct.{EventAct}
use Rattle.ca_model.specs.declared.values.EventAct.TheVariants as act
use Rattle.ca_model.specs.declared.values.Given.{Given}
use Rattle.ca_model.specs.declared.values.Given.TheVariants as given
use Rattle.ca_model.specs.declared.values.FaultKind.{FaultKind}
use Rattle.ca_model.specs.declared.values.FaultKind.TheVariants as fault
use Rattle.ca_model.specs.declared.values.Addr.{Addr}
use Rattle.ca_model.specs.declared.values.Value.{Value}
use Rattle.ca_model.specs.declared.values.Value.TheVariants as v
use Rattle.ca_model.specs.contracts.values.EventPartialEq as event_eq
use Rattle.ca_model.specs.contracts.values.EventActPartialEq as act_eq
use Rattle.ca_model.specs.contracts.values.ValuePartialEq as value_eq
use Rattle.ca_model.specs.contracts.values.AddrPartialEq as addr_eq
use Rattle.ca_model.specs.contracts.values.GivenPartialEq as given_eq
use Rattle.ca_model.specs.contracts.values.FaultKindPartialEq as fault_eq
use Rattle.ca_model.specs.Arith.{same}
use Rattle.ca_model.proofs.Entries.{same_is, same_self, int_self}
use Rattle.std.proofs.lemmas.Bool.Decides.{Decides-int_eq}

abbrev pub equal : Event → Event → Bool
equal a b = event_eq.TheImpl.eq-value.it a b

abbrev pub equal_acts : EventAct → EventAct → Bool
equal_acts a b = act_eq.TheImpl.eq-value.it a b

equal_values : (x y : Value) → value_eq.TheImpl.eq-value.it x y ≡ same x y
equal_values (v.Num m) (v.Num n) = refl
equal_values (v.Addr a) (v.Addr b) = refl
equal_values (v.Num m) (v.Addr b) = refl
equal_values (v.Addr a) (v.Num n) = refl

same_addr : (p q : Addr) → addr_eq.TheImpl.eq-value.it p q ≡ true → p ≡ q
same_addr p q e =
    let two = and_parts (p.block == q.block) (int_eq p.offset q.offset) e in
    let block : p.block ≡ q.block = eqb-true p.block q.block two.0 in
    let offset : p.offset ≡ q.offset = (Decides-int_eq p.offset q.offset).0 two.1 in
    λ i. record { block = block i; offset = offset i }

same_kind : (j k : FaultKind) → fault_eq.TheImpl.eq-value.it j k ≡ true → j ≡ k
same_kind fault.Assert fault.Assert e = refl
same_kind fault.Pointer fault.Pointer e = refl
same_kind fault.Mutex fault.Mutex e = refl
same_kind fault.Arith fault.Arith e = refl
same_kind fault.Kind fault.Kind e = refl
same_kind fault.Thread fault.Thread e = refl
same_kind _ _ e = absurd (cc)

same_thing : (g h : Given) → given_eq.TheImpl.eq-value.it g h ≡ true → g ≡ h
same_thing (given.Mutex m) (given.Mutex n) e = let number : m.0 ≡ n.0 = eqb-true m.0 n.0 e in ap given.Mutex (λ i. record { 0 = number i })
same_thing (given.Block a) (given.Block b) e = ap given.Block (eqb-true a b e)
same_thing _ _ e = absurd (cc)

same_list : {A : Type 0} (r : A → A → Bool) → ((x y : A) → r x y ≡ true → x ≡ y) → (xs ys : List A) → pointwise r xs ys ≡ true → xs ≡ ys
same_list r is [] [] e = refl
same_list r is (x ∷ xs) (y ∷ ys) e = let two = and_parts (r x y) (pointwise r xs ys) e in ap (λ z. z ∷ xs) (is x y two.0) ∙ ap (λ l. y ∷ l) (same_list r is xs ys two.1)
same_list r is _ _ e = absurd (cc)

pub same_act : (a b : EventAct) → equal_acts a b ≡ true → a ≡ b
same_act (act.Read p x) (act.Read q y) e =
    let two = and_parts (addr_eq.TheImpl.eq-value.it p q) (value_eq.TheImpl.eq-value.it x y) e in
    ap (λ r. act.Read r x) (same_addr p q two.0) ∙ ap (act.Read q) (same_is x y (sym (equal_values x y) ∙ two.1))
same_act (act.Write p x) (act.Write q y) e =
    let two = and_parts (addr_eq.TheImpl.eq-value.it p q) (value_eq.TheImpl.eq-value.it x y) e in
    ap (λ r. act.Write r x) (same_addr p q two.0) ∙ ap (act.Write q) (same_is x y (sym (equal_values x y) ∙ two.1))
same_act (act.Lock m) (act.Lock n) e = let number : m.0 ≡ n.0 = eqb-true m.0 n.0 e in ap act.Lock (λ i. record { 0 = number i })
same_act (act.Unlock m) (act.Unlock n) e = let number : m.0 ≡ n.0 = eqb-true m.0 n.0 e in ap act.Unlock (λ i. record { 0 = number i })
same_act (act.Malloc c x) (act.Malloc d y) e =
    let two = and_parts (int_eq c d) (value_eq.TheImpl.eq-value.it x y) e in
    ap (λ r. act.Malloc r x) ((Decides-int_eq c d).0 two.0) ∙ ap (act.Malloc d) (same_is x y (sym (equal_values x y) ∙ two.1))
same_act (act.Free x) (act.Free y) e = ap act.Free (same_is x y (sym (equal_values x y) ∙ e))
same_act (act.Print p) (act.Print q) e = ap act.Print (same_list (λ a b. a == b) eqb-true p q e)
same_act (act.Create u) (act.Create w) e = ap act.Create (eqb-true u w e)
same_act (act.Join u) (act.Join w) e = ap act.Join (eqb-true u w e)
same_act (act.Call f) (act.Call g) e = let number : f.0 ≡ g.0 = eqb-true f.0 g.0 e in ap act.Call (λ i. record { 0 = number i })
same_act (act.Return x) (act.Return y) e = ap act.Return (same_is x y (sym (equal_values x y) ∙ e))
same_act act.Turn act.Turn e = refl
same_act act.End act.End e = refl
same_act (act.Fault j) (act.Fault k) e = ap act.Fault (same_kind j k e)
same_act act.Save act.Save e = refl
same_act (act.Retry s p) (act.Retry t q) e =
    let two = and_parts (s.0 == t.0) (pointwise (λ a b. given_eq.TheImpl.eq-value.it a b) p q) e in
    let number : s.0 ≡ t.0 = eqb-true s.0 t.0 two.0 in
    ap (λ r. act.Retry r p) (λ i. record { 0 = number i }) ∙ ap (act.Retry t) (same_list (λ a b. given_eq.TheImpl.eq-value.it a b) same_thing p q two.1)
same_act _ _ e = absurd (cc)

pub same_event : (a b : Event) → equal a b ≡ true → a ≡ b
same_event a b e =
    let two = and_parts (a.thread == b.thread) (equal_acts a.act b.act) e in
    let thread : a.thread ≡ b.thread = eqb-true a.thread b.thread two.0 in
    let its : a.act ≡ b.act = same_act a.act b.act two.1 in
    λ i. record { thread = thread i; act = its i }

-- and each is equal to itself
addr_self : (p : Addr) → addr_eq.TheImpl.eq-value.it p p ≡ true
addr_self p = and_from (p.block == p.block) (int_eq p.offset p.offset) (eq-eqb p.block p.block refl) (int_self p.offset)

value_self : (x : Value) → value_eq.TheImpl.eq-value.it x x ≡ true
value_self x = equal_values x x ∙ same_self x

kind_self : (k : FaultKind) → fault_eq.TheImpl.eq-value.it k k ≡ true
kind_self fault.Assert = refl
kind_self fault.Pointer = refl
kind_self fault.Mutex = refl
kind_self fault.Arith = refl
kind_self fault.Kind = refl
kind_self fault.Thread = refl

thing_self : (g : Given) → given_eq.TheImpl.eq-value.it g g ≡ true
thing_self (given.Mutex m) = eq-eqb m.0 m.0 refl
thing_self (given.Block a) = eq-eqb a a refl

list_self : {A : Type 0} (r : A → A → Bool) → ((x : A) → r x x ≡ true) → (xs : List A) → pointwise r xs xs ≡ true
list_self r is [] = refl
list_self r is (x ∷ xs) = and_from (r x x) (pointwise r xs xs) (is x) (list_self r is xs)

pub act_self : (a : EventAct) → equal_acts a a ≡ true
act_self (act.Read p x) = and_from (addr_eq.TheImpl.eq-value.it p p) (value_eq.TheImpl.eq-value.it x x) (addr_self p) (value_self x)
act_self (act.Write p x) = and_from (addr_eq.TheImpl.eq-value.it p p) (value_eq.TheImpl.eq-value.it x x) (addr_self p) (value_self x)
act_self (act.Lock m) = eq-eqb m.0 m.0 refl
act_self (act.Unlock m) = eq-eqb m.0 m.0 refl
act_self (act.Malloc c x) = and_from (int_eq c c) (value_eq.TheImpl.eq-value.it x x) (int_self c) (value_self x)
act_self (act.Free x) = value_self x
act_self (act.Print p) = list_self (λ a b. a == b) (λ a. eq-eqb a a refl) p
act_self (act.Create u) = eq-eqb u u refl
act_self (act.Join u) = eq-eqb u u refl
act_self (act.Call f) = eq-eqb f.0 f.0 refl
act_self (act.Return x) = value_self x
act_self act.Turn = refl
act_self act.End = refl
act_self (act.Fault k) = kind_self k
act_self act.Save = refl
act_self (act.Retry s p) = and_from (s.0 == s.0) (pointwise (λ a b. given_eq.TheImpl.eq-value.it a b) p p) (eq-eqb s.0 s.0 refl) (list_self (λ a b. given_eq.TheImpl.eq-value.it a b) thing_self p)

pub equal_events : (a b : Event) → a ≡ b → equal a b ≡ true
equal_events a b e = subst (λ x. equal a x ≡ true) e (and_from (a.thread == a.thread) (equal_acts a.act a.act) (eq-eqb a.thread a.thread refl) (act_self a.act))
