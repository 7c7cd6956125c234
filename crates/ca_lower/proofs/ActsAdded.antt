-- What code that is added for items is right for.
use Rattle.std.proofs.Common.{rules, ◌≡◌, ℕ, ◌+◌, ◌<◌, ◌≤◌, Bool, true, false, List, map, Option, Some, None, refl, sym, ap, ◌∙◌, subst, inl, inr, arith}
use Rattle.std.specs.Prelude.{pos, ◌*ℤ◌, nat_lt, ◌&&◌, ◌⊎◌}
use Rattle.ca_tree.specs.declared.numbers.FunId.{FunId}
use Rattle.ca_tree.specs.declared.numbers.VarId.{VarId}
use Rattle.ca_tree.specs.declared.numbers.ItemId.{ItemId}
use Rattle.ca_tree.specs.declared.numbers.MutexId.{MutexId}
use Rattle.ca_tree.specs.declared.numbers.SiteId.{SiteId}
use Rattle.ca_model.specs.declared.values.Value.{Value}
use Rattle.ca_model.specs.declared.tree.BinOp.{BinOp}
use Rattle.ca_model.specs.declared.tree.LoadKind.TheVariants as kind
use Rattle.ca_model.specs.declared.tree.Exp.{Exp}
use Rattle.ca_model.specs.declared.tree.Place.{Place, out-Place}
use Rattle.ca_model.specs.declared.tree.Act.{Act}
use Rattle.ca_model.specs.declared.tree.Act.TheVariants as act
use Rattle.ca_model.specs.declared.tree.Target.TheVariants as target
use Rattle.ca_model.specs.declared.tree.Item.{Item}
use Rattle.ca_model.specs.Arith.{null, number, truth, operated}
use Rattle.ca_model.specs.Asks.{Locks, Unlocks, Frees, Mallocs, Creates, Joins, Prints, Calls, Returns, Fails, Asks, Got, Is, Wants, No_result, then, ◌>>=◌, ◌>>◌, give, ask, result}
use Rattle.ca_model.specs.Printed.{written}
use Rattle.ca_model.specs.Eval.{part, spot, eval, eval_all, local, access, site_id, site_at}
use Rattle.ca_model.specs.Items.{Done, done, set, assert, act_run}
use Rattle.ca_model.specs.Frames.{Code, item_run}
use Rattle.ca_flow.specs.declared.instr.Reg.{Reg}
use Rattle.ca_flow.specs.declared.instr.AtSite.{AtSite}
use Rattle.ca_flow.specs.declared.instr.Instr.TheVariants as instr
use Rattle.ca_flow.specs.declared.instr.Links.TheVariants as links
use Rattle.ca_flow.specs.declared.instr.NodeId.{NodeId}
use Rattle.ca_flow.specs.declared.instr.Step.{Step}
use Rattle.ca_flow.specs.Instructions.{reg, put, on, site_of}
use Rattle.ca_lower.specs.Lowered.{Finds, FindsAll, Sets, Decides, Aims, Works, Ends, Chooses, home, homes}
use Rattle.ca_model.specs.declared.tree.Place.{map-Place, fold_out-Place}
use Rattle.ca_model.specs.Bounds.{among, exp_among, place_among, index_among}
use Rattle.ca_lower.specs.Building.{among_place, index_home}
use Rattle.ca_lower.proofs.Added.{home_within}
use Rattle.ca_lower.proofs.Rows.{local_take, kept_less}
use Rattle.ca_lower.proofs.CodeOfParts.{At, spot_out}
use Rattle.ca_lower.proofs.CodeOfControl.{IndexBelow, set_works, store_works, cond_chooses}
use Rattle.ca_lower.proofs.CodeOfActs.{Leaves, leaves_value, leaves_all, ask_works, given_works, effect_works, ends_by, ends_work, result_works, malloc_works, update_works}

-- what an item does, by its act and its first site
run_is : (code : Code) (i : Item) (a : Act) (s : ℕ) → i.act ≡ a → code.first_site i.id ≡ s → (l xs : List Value) → item_run code i l xs ≡ act_run a i.id l s xs
run_is code i a s is first l xs = ap (λ a. act_run a i.id l (code.first_site i.id) xs) is ∙ ap (λ f. act_run a i.id l f xs) first

pub access_is : (p : Place) → access (spot p).through ≡ access (out-Place p).through
access_is p = ap (λ d. access d.through) (spot_out p)

through_is : (p : Place) → (spot p).through ≡ (out-Place p).through
through_is p = ap (λ d. d.through) (spot_out p)

pub left_true : (a b : Bool) → (a && b) ≡ true → a ≡ true
left_true true b h = refl
left_true false b h = h

pub right_true : (a b : Bool) → (a && b) ≡ true → b ≡ true
right_true true b h = h
right_true false b h = cc

pub first_below : (x n : ℕ) (b : Bool) → (nat_lt x n && b) ≡ true → x < n
first_below x n b h = let k : nat_lt x n ≡ true = left_true (nat_lt x n) b h in search (rules, k)

pub is_among : (a b c : Bool) → ((a && b) && c) ≡ true → a ≡ true
is_among a b c h = left_true a b (left_true (a && b) c h)

module _ (code : Code) (g : List Step) (low width l : ℕ) (lo : low ≤ l) where
  found : (n j a s : ℕ) (e : Exp) (b : Reg) → b.0 ≡ a → Finds code g low width l n j a e s → Leaves code g low width n j (λ t. eval t e s) (λ r. reg r b)
  found n j a s e b same finds = leaves_value code g low width l n j b.0 e s lo (subst (λ a. Finds code g low width l n j a e s) (sym same) finds)

  pub zero_added : (n : ℕ) (m : NodeId) (i : Item) (item : ItemId) (x : VarId) (v : Value) → v ≡ null → i.act ≡ act.Zero x → x.0 < width → At g n (record { item = item; instr = instr.Put (record { 0 = x.0 }) v }) (links.One m) → Works code g low width n m.0 i
  zero_added n m i item x v zero' is xw at =
      given_works code g low width n m i x v _ xw (λ l xs. run_is code i (act.Zero x) (code.first_site i.id) is refl l xs ∙ ap (λ v. set l x v xs) (sym zero')) at (λ r xs. refl)

  pub lock_added : (n s : ℕ) (m : NodeId) (i : Item) (k : MutexId) (a : AtSite) (acquiring : Bool) → i.act ≡ act.Lock k → code.first_site i.id ≡ s → a.site ≡ site_id s
      → At g n (record { item = i.id; instr = instr.Lock k a acquiring }) (links.One m) → Works code g low width n m.0 i
  lock_added n s m i k a acquiring is first site at =
      ask_works code g low width n m i (ask (Locks k (site_id s) i.id)) _ (run_is code i (act.Lock k) s is first) at (λ r xs. ap (λ j. then (ask (Locks k j i.id) xs) (λ x. on r)) site)

  pub unlock_added : (n : ℕ) (m : NodeId) (i : Item) (item : ItemId) (k : MutexId) → i.act ≡ act.Unlock k → At g n (record { item = item; instr = instr.Unlock k }) (links.One m) → Works code g low width n m.0 i
  unlock_added n m i item k is at = ask_works code g low width n m i (ask (Unlocks k)) _ (run_is code i (act.Unlock k) (code.first_site i.id) is refl) at (λ r xs. refl)

  pub join_added : (n j s : ℕ) (m : NodeId) (i : Item) (item : ItemId) (e : Exp) (a : Reg) → i.act ≡ act.Join e → code.first_site i.id ≡ s → a.0 ≡ home e l → Finds code g low width l n j (home e l) e s
      → At g j (record { item = item; instr = instr.Join a }) (links.One m) → Works code g low width n m.0 i
  join_added n j s m i item e a is first same finds at =
      effect_works code g low width n j (λ t. eval t e s) (λ r. reg r a) (found n j (home e l) s e a same finds) m i (λ v. ask (Joins (number v))) _ (run_is code i (act.Join e) s is first) at (λ r xs. refl)

  pub free_added : (n j s k : ℕ) (m : NodeId) (i : Item) (item : ItemId) (e : Exp) (a : Reg) (b : AtSite) → i.act ≡ act.Free e → code.first_site i.id ≡ s → a.0 ≡ home e l → b.site ≡ site_id k → k ≡ s + (part e).sites
      → Finds code g low width l n j (home e l) e s → At g j (record { item = item; instr = instr.Free a b }) (links.One m) → Works code g low width n m.0 i
  free_added n j s k m i item e a b is first same site count finds at =
      effect_works code g low width n j (λ t. eval t e s) (λ r. reg r a) (found n j (home e l) s e a same finds) m i (λ v. ask (Frees v (site_id (s + (part e).sites)))) _ (run_is code i (act.Free e) s is first) at
      (λ r xs. ap (λ k. then (ask (Frees (reg r a) k) xs) (λ x. on r)) (site ∙ ap site_id count))

  -- what an assertion asks
  abbrev asserted : Bool → ℕ → Asks Value
  asserted true k = give null
  asserted false k = ask (Fails (site_id k))

  asserts : (b : Bool) (k : ℕ) (l xs : List Value) → assert b (site_id k) l xs ≡ (asserted b k >> done l) xs
  asserts true k l xs = refl
  asserts false k l xs = refl

  abbrev assert_on : Bool → SiteId → List Value → Asks (List Value × Bool)
  assert_on b s r = elim b [ true ↦ on r | false ↦ ask (Fails s) >> on r ]

  asserts_on : (b : Bool) (k : ℕ) (r xs : List Value) → assert_on b (site_id k) r xs ≡ (asserted b k >> on r) xs
  asserts_on true k r xs = refl
  asserts_on false k r xs = refl

  same_then : {A : Type 0} (p : Got A) (f h : A → Asks Done) → ((x : A) (ys : List Value) → f x ys ≡ h x ys) → then p f ≡ then p h
  same_then (Is x rest) f h e = e x rest
  same_then (Wants w) f h e = refl
  same_then No_result f h e = refl

  pub assert_added : (n j s k : ℕ) (m : NodeId) (i : Item) (item : ItemId) (e : Exp) (a : Reg) (b : AtSite) → i.act ≡ act.Assert e → code.first_site i.id ≡ s → a.0 ≡ home e l → b.site ≡ site_id k → k ≡ s + (part e).sites
      → Finds code g low width l n j (home e l) e s → At g j (record { item = item; instr = instr.Assert a b }) (links.One m) → Works code g low width n m.0 i
  assert_added n j s k m i item e a b is first same site count finds at =
      let f : Value → Asks Value = λ v. asserted (truth v) (s + (part e).sites) in
      effect_works code g low width n j (λ t. eval t e s) (λ r. reg r a) (found n j (home e l) s e a same finds) m i f _
      (λ l xs. run_is code i (act.Assert e) s is first l xs ∙ same_then (eval l e s xs) _ (λ v. f v >> done l) (λ v ys. asserts (truth v) (s + (part e).sites) l ys)) at
      (λ r xs. ap (λ k. assert_on (truth (reg r a)) k r xs) (site ∙ ap site_id count) ∙ asserts_on (truth (reg r a)) (s + (part e).sites) r xs)

  pub create_added : (n j s : ℕ) (m : NodeId) (i : Item) (item : ItemId) (x : VarId) (f : FunId) (e : Exp) (a : Reg) → i.act ≡ act.Create x f e → code.first_site i.id ≡ s → x.0 < width → a.0 ≡ home e l → Finds code g low width l n j (home e l) e s
      → At g j (record { item = item; instr = instr.Create (record { 0 = x.0 }) f a }) (links.One m) → Works code g low width n m.0 i
  create_added n j s m i item x f e a is first xw same finds at =
      result_works code g low width n j (λ t. eval t e s) (λ r. reg r a) (found n j (home e l) s e a same finds) m i x (λ l v. ask (Creates f v)) _ xw (run_is code i (act.Create x f e) s is first) at (λ r xs. refl)

  pub malloc_added : (n j s : ℕ) (m : NodeId) (i : Item) (x : VarId) (e : Exp) (size : ℕ) (acquiring : Bool) (a : Reg) → i.act ≡ act.Malloc (target.Local x) e size → code.first_site i.id ≡ s → x.0 < width → a.0 ≡ home e l
      → Finds code g low width l n j (home e l) e s → At g j (record { item = i.id; instr = instr.Malloc (record { 0 = x.0 }) a size acquiring }) (links.One m) → Works code g low width n m.0 i
  malloc_added n j s m i x e size acquiring a is first xw same finds at =
      result_works code g low width n j (λ t. eval t e s) (λ r. reg r a) (found n j (home e l) s e a same finds) m i x (λ l v. ask (Mallocs (number v *ℤ pos size) i.id)) _ xw
      (λ l xs. run_is code i (act.Malloc (target.Local x) e size) s is first l xs ∙ ap (λ t. then (eval l e t xs) (λ v. ask (Mallocs (number v *ℤ pos size) i.id) >>= λ y. set l x y)) (omega arith)) at (λ r xs. refl)

  pub update_added : (n j s : ℕ) (m : NodeId) (i : Item) (item : ItemId) (x : VarId) (o : BinOp) (e : Exp) (a : Reg) → i.act ≡ act.Update (target.Local x) o e → code.first_site i.id ≡ s → x.0 < low → x.0 < width → a.0 ≡ home e l
      → Finds code g low width l n j (home e l) e s → At g j (record { item = item; instr = instr.Binary (record { 0 = x.0 }) o (record { 0 = x.0 }) a }) (links.One m) → Works code g low width n m.0 i
  update_added n j s m i item x o e a is first xl xw same finds at =
      result_works code g low width n j (λ t. eval t e s) (λ r. reg r a) (found n j (home e l) s e a same finds) m i x (λ l v. result (operated o (local l x.0) v)) _ xw
      (λ l xs. run_is code i (act.Update (target.Local x) o e) s is first l xs ∙ ap (λ t. then (eval l e t xs) (λ v. result (operated o (local l x.0) v) >>= λ y. set l x y)) (omega arith)) at
      (λ r xs. ap (λ v. then (result (operated o v (reg r a)) xs) (λ y. on (put r (record { 0 = x.0 }) y))) (sym (local_take low x.0 r xl)))

  pub set_added : (n s : ℕ) (m : ℕ) (i : Item) (x : VarId) (e : Exp) → i.act ≡ act.Set (target.Local x) e → code.first_site i.id ≡ s → Sets code g low width l n m x.0 e s → Works code g low width n m i
  set_added n s m i x e is first sets = set_works code g low width n m s i x e is first (record { does = λ k r q ls wide more. sets.does k r q ls wide (λ r' y h. more r' y (kept_less low l r r' lo h)) })

  -- ---- calls and prints

  pub call_added : (n j s : ℕ) (m : NodeId) (i : Item) (item : ItemId) (f : FunId) (es : List Exp) (as' : List Reg) → i.act ≡ act.Call None f es → code.first_site i.id ≡ s → as' ≡ homes es l → FindsAll code g low width l n j es s
      → At g j (record { item = item; instr = instr.Call None f as' }) (links.One m) → Works code g low width n m.0 i
  call_added n j s m i item f es as' is first same finds at =
      effect_works code g low width n j (λ t. eval_all t es s) (λ r. map (reg r) (homes es l)) (leaves_all code g low width l n j es s lo finds) m i (λ vs. ask (Calls f vs)) _ (run_is code i (act.Call None f es) s is first) at
      (λ r xs. ap (λ regs. then (ask (Calls f (map (reg r) regs)) xs) (λ x. on r)) same)

  pub call_sets_added : (n j s : ℕ) (m : NodeId) (i : Item) (item : ItemId) (x : VarId) (f : FunId) (es : List Exp) (as' : List Reg) → i.act ≡ act.Call (Some x) f es → code.first_site i.id ≡ s → x.0 < width → as' ≡ homes es l
      → FindsAll code g low width l n j es s → At g j (record { item = item; instr = instr.Call (Some (record { 0 = x.0 })) f as' }) (links.One m) → Works code g low width n m.0 i
  call_sets_added n j s m i item x f es as' is first xw same finds at =
      result_works code g low width n j (λ t. eval_all t es s) (λ r. map (reg r) (homes es l)) (leaves_all code g low width l n j es s lo finds) m i x (λ l vs. ask (Calls f vs)) _ xw (run_is code i (act.Call (Some x) f es) s is first) at
      (λ r xs. ap (λ regs. then (ask (Calls f (map (reg r) regs)) xs) (λ y. on (put r (record { 0 = x.0 }) y))) same)

  pub print_added : (n j s : ℕ) (m : NodeId) (i : Item) (item : ItemId) (t t' : List ℕ) (es : List Exp) (as' : List Reg) → i.act ≡ act.Print t es → code.first_site i.id ≡ s → t' ≡ t → as' ≡ homes es l → FindsAll code g low width l n j es s
      → At g j (record { item = item; instr = instr.Print t' as' }) (links.One m) → Works code g low width n m.0 i
  print_added n j s m i item t t' es as' is first text same finds at =
      effect_works code g low width n j (λ t. eval_all t es s) (λ r. map (reg r) (homes es l)) (leaves_all code g low width l n j es s lo finds) m i (λ vs. ask (Prints (written t vs))) _ (run_is code i (act.Print t es) s is first) at
      (λ r xs. ap (λ t. then (ask (Prints (written t (map (reg r) as'))) xs) (λ x. on r)) text ∙ ap (λ regs. then (ask (Prints (written t (map (reg r) regs))) xs) (λ x. on r)) same)

  -- ---- where control ends

  pub return_added : (n j s m : ℕ) (i : Item) (item : ItemId) (e : Exp) (a : Reg) → i.act ≡ act.Return (Some e) → code.first_site i.id ≡ s → a.0 ≡ home e l → Finds code g low width l n j (home e l) e s
      → At g j (record { item = item; instr = instr.Return (Some a) }) links.Nowhere → Works code g low width n m i
  return_added n j s m i item e a is first same finds at =
      ends_work code g low width n m i (ends_by code g low width n j (λ t. eval t e s) (λ r. reg r a) (found n j (home e l) s e a same finds) i (λ v. ask (Returns v)) _ (run_is code i (act.Return (Some e)) s is first) at (λ r xs. refl))

  nothing_left : (n : ℕ) → Leaves code g low width n n (λ t. give null) (λ r. null)
  nothing_left n = record { does = λ k r q ls wide more. more r (record { same = refl; wide = refl }) }

  pub end_added : (n : ℕ) (i : Item) (item : ItemId) → (i.act ≡ act.Return None) ⊎ (i.act ≡ act.Close) → At g n (record { item = item; instr = instr.Return None }) links.Nowhere → Ends code g low width n i
  end_added n i item is at = elim is [
    | inl returns ↦ ends_by code g low width n n (λ t. give null) (λ r. null) (nothing_left n) i (λ v. ask (Returns v)) _ (run_is code i (act.Return None) (code.first_site i.id) returns refl) at (λ r xs. refl)
    | inr closes ↦ ends_by code g low width n n (λ t. give null) (λ r. null) (nothing_left n) i (λ v. ask (Returns v)) _ (run_is code i act.Close (code.first_site i.id) closes refl) at (λ r xs. refl)
  ]

  -- ---- places

  within_index : (p : Place) (o : Option (Exp × ℕ))
      → index_among (map-Place Exp Place Bool Bool (among low) (among_place low) (record { base = (out-Place p).base; index = o; field = (out-Place p).field; through = (out-Place p).through })).index ≡ true → IndexBelow (l + 2) (index_home o l)
  within_index p None h = tt
  within_index p (Some x) h = let le : home x.0 (l + 1) ≤ l + 1 = home_within low (l + 1) x.0 (omega (arith, lo)) h in omega (arith, le)

  -- the registers of a place stand below those of the value
  place_homes : (p : Place) → among_place low p ≡ true → (home (out-Place p).base l < l + 2) × IndexBelow (l + 2) (index_home (out-Place p).index l)
  place_homes p h =
      let layer = map-Place Exp Place Bool Bool (among low) (among_place low) (out-Place p) in
      let both : (layer.base && index_among layer.index) ≡ true = sym (fold_out-Place Bool Bool (exp_among low) place_among p) ∙ h in
      let le : home (out-Place p).base l ≤ l = home_within low l (out-Place p).base lo (left_true layer.base (index_among layer.index) both) in
      (omega (arith, le), within_index p (out-Place p).index (right_true layer.base (index_among layer.index) both))

  at_homes : (n j s : ℕ) (p : Place) (base : Reg) (index : Option (Reg × ℕ)) → base.0 ≡ home (out-Place p).base l → index ≡ index_home (out-Place p).index l
      → Aims code g low width l n j (record { 0 = home (out-Place p).base l }) (index_home (out-Place p).index l) (out-Place p).field p s → Aims code g low width l n j base index (out-Place p).field p s
  at_homes n j s p base index sb si aims =
      subst (λ x. Aims code g low width l n j base x (out-Place p).field p s) (sym si) (subst (λ b. Aims code g low width l n j (record { 0 = b }) (index_home (out-Place p).index l) (out-Place p).field p s) (sym sb) aims)

  aims_at : (n j s : ℕ) (p : Place) (base : Reg) (index : Option (Reg × ℕ)) → base.0 ≡ home (out-Place p).base l → index ≡ index_home (out-Place p).index l
      → Aims code g low width l n j (record { 0 = home (out-Place p).base l }) (index_home (out-Place p).index l) (out-Place p).field p s → Aims code g low width low n j base index (out-Place p).field p s
  aims_at n j s p base index sb si aims =
      let here : Aims code g low width l n j base index (out-Place p).field p s = at_homes n j s p base index sb si aims in
      record { does = λ k r q ls wide more. here.does k r q ls wide (λ r' h. more r' (kept_less low l r r' lo h)) }

  below_base : (p : Place) (base : Reg) → among_place low p ≡ true → base.0 ≡ home (out-Place p).base l → base.0 < l + 2
  below_base p base h same = let lt = (place_homes p h).0 in omega (arith, lt, same)

  below_index : (p : Place) (index : Option (Reg × ℕ)) → among_place low p ≡ true → index ≡ index_home (out-Place p).index l → IndexBelow (l + 2) index
  below_index p index h same = subst (IndexBelow (l + 2)) (sym same) (place_homes p h).1

  site_by : (p : Place) (m : Option AtSite) (k j : ℕ) → site_of m ≡ site_at (out-Place p).through k → k ≡ j → site_of m ≡ site_at (spot p).through j
  site_by p m k j is same = is ∙ (ap (λ t. site_at t k) (sym (through_is p)) ∙ ap (site_at (spot p).through) same)

  pub store_added : (n j i' s t k : ℕ) (m : NodeId) (i : Item) (item : ItemId) (p : Place) (e : Exp) (base a : Reg) (index : Option (Reg × ℕ)) (at' : Option AtSite) → among_place low p ≡ true → i.act ≡ act.Set (target.Place p) e → code.first_site i.id ≡ s
      → base.0 ≡ home (out-Place p).base l → index ≡ index_home (out-Place p).index l → a.0 ≡ home e (l + 2) → t ≡ s + (spot p).sites → k ≡ t + (part e).sites → site_of at' ≡ site_at (out-Place p).through k
      → Aims code g low width l n j (record { 0 = home (out-Place p).base l }) (index_home (out-Place p).index l) (out-Place p).field p s → Finds code g low width (l + 2) j i' (home e (l + 2)) e t
      → At g i' (record { item = item; instr = instr.Store a base index (out-Place p).field at' }) (links.One m) → Works code g low width n m.0 i
  store_added n j i' s t k m i item p e base a index at' within is first sb si sa st sk site aims finds at =
      store_works code g low width n j i' m.0 s a.0 base index (out-Place p).field at' m i p e _ refl is first (l + 2) (omega (arith, lo)) (below_base p base within sb) (below_index p index within si)
      (aims_at n j s p base index sb si aims) (subst (λ t. Finds code g low width (l + 2) j i' a.0 e t) st (subst (λ b. Finds code g low width (l + 2) j i' b e t) (sym sa) finds)) at refl
      (site_by p at' k (s + (spot p).sites + (part e).sites) site (omega (arith, sk, st)))

  pub malloc_place_added : (n j i' s t k : ℕ) (m write' : NodeId) (i : Item) (item : ItemId) (p : Place) (e : Exp) (size : ℕ) (acquiring : Bool) (base a to from : Reg) (index : Option (Reg × ℕ)) (at' : Option AtSite) → among_place low p ≡ true
      → i.act ≡ act.Malloc (target.Place p) e size → code.first_site i.id ≡ s → base.0 ≡ home (out-Place p).base l → index ≡ index_home (out-Place p).index l → a.0 ≡ home e (l + 2) → to.0 ≡ l + 2 → from ≡ to → l + 2 < width
      → t ≡ s + (spot p).sites → k ≡ t + (part e).sites → site_of at' ≡ site_at (out-Place p).through k
      → Aims code g low width l n j (record { 0 = home (out-Place p).base l }) (index_home (out-Place p).index l) (out-Place p).field p s → Finds code g low width (l + 2) j i' (home e (l + 2)) e t
      → At g i' (record { item = i.id; instr = instr.Malloc to a size acquiring }) (links.One write')
      → At g write'.0 (record { item = item; instr = instr.Store from base index (out-Place p).field at' }) (links.One m) → Works code g low width n m.0 i
  malloc_place_added n j i' s t k m write' i item p e size acquiring base a to from index at' within is first sb si sa so sf lw st sk site aims finds at at2 =
      malloc_works code g low width n j i' i' s a.0 base index (out-Place p).field at' m write' i p e size acquiring _ _ is first (l + 2) (omega (arith, lo)) lw (below_base p base within sb) (below_index p index within si)
      (aims_at n j s p base index sb si aims) (subst (λ t. Finds code g low width (l + 2) j i' a.0 e t) st (subst (λ b. Finds code g low width (l + 2) j i' b e t) (sym sa) finds))
      at (ap (λ k. instr.Malloc (record { 0 = k }) a size acquiring) so) refl at2 (ap (λ (f : Reg). instr.Store f base index (out-Place p).field at') sf ∙ ap (λ k. instr.Store (record { 0 = k }) base index (out-Place p).field at') so)
      (site_by p at' k (s + (spot p).sites + (part e).sites) site (omega (arith, sk, st)))

  pub update_place_added : (n j i' s s' k k' : ℕ) (m write' right' : NodeId) (i : Item) (item item' item'' : ItemId) (p : Place) (o : BinOp) (e : Exp) (base a to : Reg) (index : Option (Reg × ℕ)) (at' at'' : Option AtSite) → among_place low p ≡ true
      → i.act ≡ act.Update (target.Place p) o e → code.first_site i.id ≡ s → base.0 ≡ home (out-Place p).base l → index ≡ index_home (out-Place p).index l → a.0 ≡ home e (l + 3) → to.0 ≡ l + 2 → l + 2 < width
      → k ≡ s + (spot p).sites → s' ≡ k + access (out-Place p).through → k' ≡ s' + (part e).sites → site_of at'' ≡ site_at (out-Place p).through k → site_of at' ≡ site_at (out-Place p).through k'
      → Aims code g low width l n j (record { 0 = home (out-Place p).base l }) (index_home (out-Place p).index l) (out-Place p).field p s → Finds code g low width (l + 3) right'.0 i' (home e (l + 3)) e s'
      → At g j (record { item = item; instr = instr.Load to base index (out-Place p).field kind.Int at'' }) (links.One right')
      → At g i' (record { item = item'; instr = instr.Binary to o to a }) (links.One write')
      → At g write'.0 (record { item = item''; instr = instr.Store to base index (out-Place p).field at' }) (links.One m) → Works code g low width n m.0 i
  update_place_added n j i' s s' k k' m write' right' i item item' item'' p o e base a to index at' at'' within is first sb si sa so lw sk ss sk' site3 site aims finds at3 at at2 =
      let three : (l + 2) + 1 ≡ l + 3 = omega arith in
      let starts : s' ≡ s + (spot p).sites + access (spot p).through = ss ∙ (ap (λ k. k + access (out-Place p).through) sk ∙ ap (λ b. s + (spot p).sites + access b) (sym (through_is p))) in
      update_works code g low width n j i' i' s s' a.0 base index (out-Place p).field at' at'' m write' right' i p o e _ _ _ is first starts
      (l + 2) (omega (arith, lo)) lw (below_base p base within sb) (below_index p index within si)
      (aims_at n j s p base index sb si aims) (subst (λ l. Finds code g low width l right'.0 i' a.0 e s') (sym three) (subst (λ b. Finds code g low width (l + 3) right'.0 i' b e s') (sym sa) finds))
      at3 (ap (λ k. instr.Load (record { 0 = k }) base index (out-Place p).field kind.Int at'') so) (site_by p at'' k (s + (spot p).sites) site3 sk)
      at (ap (λ k. instr.Binary (record { 0 = k }) o (record { 0 = k }) a) so)
      at2 (ap (λ k. instr.Store (record { 0 = k }) base index (out-Place p).field at') so) (site_by p at' k' (s' + (part e).sites) site sk')

  -- ---- conditions

  pub cond_added : (n one other s : ℕ) (i : Item) (e : Exp) → i.act ≡ act.Cond e → code.first_site i.id ≡ s → Decides code g low width l n one other e s → Chooses code g low width n one other i
  cond_added n one other s i e is first decides =
      cond_chooses code g low width n one other s i e is first
      (record { does = λ k r q ls wide yes' no'. decides.does k r q ls wide (λ r' h. yes' r' (kept_less low l r r' lo h)) (λ r' h. no' r' (kept_less low l r r' lo h)) })
