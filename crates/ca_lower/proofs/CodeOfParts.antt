-- Code of expressions, by what stands behind it.
use Rattle.std.proofs.Common.{◌≡◌, ℕ, suc, ◌+◌, ◌<◌, ◌≤◌, Bool, true, false, List, length, Option, Some, None, refl, sym, ap, ◌∙◌, subst, arith}
use Rattle.std.specs.Prelude.{ℤ, pos, ◌+ℤ◌, ◌*ℤ◌, not, take, slice_get, slice_set}
use Rattle.ca_tree.specs.declared.numbers.VarId.{VarId}
use Rattle.ca_model.specs.declared.values.Value.{Value}
use Rattle.ca_model.specs.declared.values.Value.TheVariants as value
use Rattle.ca_model.specs.declared.tree.BinOp.{BinOp}
use Rattle.ca_model.specs.declared.tree.LoadKind.{LoadKind}
use Rattle.ca_model.specs.declared.tree.Exp.{Exp, out-Exp}
use Rattle.ca_model.specs.declared.tree.Exp.TheOpen.{Exp-F}
use Rattle.ca_model.specs.declared.tree.Exp.TheVariants as e
use Rattle.ca_model.specs.declared.tree.Place.{Place, out-Place, map-Place, fold_out-Place}
use Rattle.ca_model.specs.Arith.{number, truth, operated, displaced}
use Rattle.ca_model.specs.Asks.{Reads, Got, Is, Wants, No_result, Asks, then, ◌>>=◌, ◌>>◌, give, ask, result}
use Rattle.ca_model.specs.Eval.{Part, Spot, exp_step, place_step, part, spot, eval, local, flag, negated, site_at, unless}
use Rattle.ca_model.specs.Items.{Done}
use Rattle.ca_model.specs.Frames.{Code, Left}
use Rattle.ca_model.proofs.Induction.{part_out}
use Rattle.ca_flow.specs.declared.instr.Reg.{Reg}
use Rattle.ca_flow.specs.declared.instr.Instr.TheVariants as instr
use Rattle.ca_flow.specs.declared.instr.Links.{Links}
use Rattle.ca_flow.specs.declared.instr.Links.TheVariants as links
use Rattle.ca_flow.specs.declared.instr.NodeId.{NodeId}
use Rattle.ca_flow.specs.declared.instr.Node.{Node}
use Rattle.ca_flow.specs.declared.instr.Step.{Step}
use Rattle.ca_flow.specs.Instructions.{reg, put, on, displacement, site_of, node_run, toward}
use Rattle.ca_flow.specs.Does.{Does, step}
use Rattle.ca_flow.proofs.Doing.{then_then, then_same, does_same}
use Rattle.ca_lower.specs.Lowered.{Finds, Sets, Decides, Aims}
use Rattle.ca_lower.proofs.Rows.{kept_all, kept_on, kept_less, kept_put, kept_reg, put_here, local_take}

-- what a part that is done has
abbrev pub value_in : {A : Type 0} → A → Got A → A
value_in d (Is x rest) = x
value_in d (Wants w) = d
value_in d No_result = d

pub same_value : {A : Type 0} (x y : A) (xs ys : List Value) → Is x xs ≡ Is y ys → x ≡ y
same_value x y xs ys is = ap (value_in x) is

abbrev pub some_in : ℕ → Option ℕ → ℕ
some_in d None = d
some_in d (Some n) = n

abbrev pub At : List Step → ℕ → Node → Links → Type 0
At g n node l = slice_get g n ≡ Some (record { node = node; links = l })

module _ (code : Code) (g : List Step) where
  -- an instruction that sets a register to what a part gives
  pub value_step : (k n : ℕ) (r : List Value) (p : Asks Value) (q : Value → Asks Done) (ls : List Left) (node : Node) (to : Reg) (m : NodeId) → At g n node (links.One m)
      → ((xs : List Value) → node_run node r xs ≡ (p >>= λ x. on (put r to x)) xs) → to.0 < length r
      → ((x : Value) → Does code g k m.0 (put r to x) (q x) ls) → Does code g k n r (p >>= q) ls
  value_step k n r p q ls node to m is does wide more =
      step (record { node = node; links = links.One m }) (λ s. q (local s.0 to.0)) is (omega arith)
      (λ xs. by_got (p xs) ∙ ap (λ d. then d (λ s. q (local s.0 to.0))) (sym (does xs)))
      (λ r' b m' xs ys gives leads. goes r' b m' ys (p xs) (sym (does xs) ∙ gives) leads)
    where
      by_got : (d : Got Value) → then d q ≡ then (then d (λ x. on (put r to x))) (λ s. q (local s.0 to.0))
      by_got (Is x rest) = ap (λ y. q y rest) (sym (put_here to.0 r x wide))
      by_got (Wants w) = refl
      by_got No_result = refl

      goes : (r' : List Value) (b : Bool) (m' : ℕ) (ys : List Value) (d : Got Value) → then d (λ x. on (put r to x)) ≡ Is (r', b) ys → Some m.0 ≡ Some m' → Does code g k m' r' (q (local r' to.0)) ls
      goes r' b m' ys (Is x rest) h leads =
          let e : ◌≡◌ {A = List Value × Bool} (put r to x, true) (r', b) = same_value _ _ _ _ h in
          let e' : put r to x ≡ r' = ap (λ s. s.0) e in
          subst (λ n. Does code g k n r' (q (local r' to.0)) ls) (ap (some_in m.0) leads)
          (subst (λ s. Does code g k m.0 s (q (local s to.0)) ls) e' (subst (λ y. Does code g k m.0 (put r to x) (q y) ls) (sym (put_here to.0 r x wide)) (more x)))
      goes r' b m' ys (Wants w) h leads = cc
      goes r' b m' ys No_result h leads = cc

  -- an instruction that only asks; a turn is counted
  pub effect_by : (k j n : ℕ) (r : List Value) (p : Asks Value) (q : Asks Done) (ls : List Left) (node : Node) (m : NodeId) → k ≤ suc j → At g n node (links.One m)
      → ((xs : List Value) → node_run node r xs ≡ (p >> on r) xs)
      → Does code g j m.0 r q ls → Does code g k n r (p >> q) ls
  effect_by k j n r p q ls node m le is does more =
      step (record { node = node; links = links.One m }) (λ s. q) is le
      (λ xs. by_got (p xs) ∙ ap (λ d. then d (λ s. q)) (sym (does xs)))
      (λ r' b m' xs ys gives leads. goes r' b m' ys (p xs) (sym (does xs) ∙ gives) leads)
    where
      by_got : (d : Got Value) → then d (λ x. q) ≡ then (then d (λ x. on r)) (λ s. q)
      by_got (Is x rest) = refl
      by_got (Wants w) = refl
      by_got No_result = refl

      goes : (r' : List Value) (b : Bool) (m' : ℕ) (ys : List Value) (d : Got Value) → then d (λ x. on r) ≡ Is (r', b) ys → Some m.0 ≡ Some m' → Does code g j m' r' q ls
      goes r' b m' ys (Is x rest) h leads =
          let e' : r ≡ r' = ap (λ s. s.0) (same_value _ _ _ _ h) in
          subst (λ n. Does code g j n r' q ls) (ap (some_in m.0) leads) (subst (λ s. Does code g j m.0 s q ls) e' more)
      goes r' b m' ys (Wants w) h leads = cc
      goes r' b m' ys No_result h leads = cc

  pub effect_step : (k n : ℕ) (r : List Value) (p : Asks Value) (q : Asks Done) (ls : List Left) (node : Node) (m : NodeId) → At g n node (links.One m)
      → ((xs : List Value) → node_run node r xs ≡ (p >> on r) xs)
      → Does code g k m.0 r q ls → Does code g k n r (p >> q) ls
  effect_step k n r p q ls node m is does more = effect_by k k n r p q ls node m (omega arith) is does more

  -- a branch
  pub branch_step : (k n : ℕ) (r : List Value) (q : Bool → Asks Done) (ls : List Left) (node : Node) (a : Reg) (one other : NodeId) → At g n node (links.Two one other) → node.instr ≡ instr.Branch a
      → Does code g k one.0 r (q true) ls → Does code g k other.0 r (q false) ls → Does code g k n r (q (truth (reg r a))) ls
  branch_step k n r q ls node a one other is at yes' no' =
      step (record { node = node; links = links.Two one other }) (λ s. q s.1) is (omega arith)
      (λ xs. ap (λ d. then d (λ s. q s.1)) (sym (does xs)))
      (λ r' b m' xs ys gives leads. goes r' b m' (same_value _ _ _ _ (sym (does xs) ∙ gives)) leads)
    where
      does : (xs : List Value) → node_run node r xs ≡ Is (r, truth (reg r a)) xs
      does xs = ap (λ i. node_run (record { item = node.item; instr = i }) r xs) at

      by_link : (b : Bool) (m' : ℕ) → toward (links.Two one other) b ≡ Some m' → Does code g k m' r (q b) ls
      by_link true m' leads = subst (λ n. Does code g k n r (q true) ls) (ap (some_in one.0) leads) yes'
      by_link false m' leads = subst (λ n. Does code g k n r (q false) ls) (ap (some_in other.0) leads) no'

      goes : (r' : List Value) (b : Bool) (m' : ℕ) → ◌≡◌ {A = List Value × Bool} (r, truth (reg r a)) (r', b) → toward (links.Two one other) b ≡ Some m' → Does code g k m' r' (q b) ls
      goes r' b m' e leads = subst (λ s. Does code g k m' s (q b) ls) (ap (λ s. s.0) e) (by_link b m' leads)

-- the run of a place, by its index
pub spot_out : (p : Place) → spot p ≡ place_step (map-Place Exp Place Part Spot part spot (out-Place p))
spot_out p = fold_out-Place Part Spot exp_step place_step p

spot_by : (p : Place) (i : Option (Exp × ℕ)) → (out-Place p).index ≡ i
    → spot p ≡ place_step (map-Place Exp Place Part Spot part spot (record { base = (out-Place p).base; index = i; field = (out-Place p).field; through = (out-Place p).through }))
spot_by p i is = spot_out p ∙ ap (λ i. place_step (map-Place Exp Place Part Spot part spot (record { base = (out-Place p).base; index = i; field = (out-Place p).field; through = (out-Place p).through }))) is

-- parts of expressions, with the locals in the first `low` registers
module _ (code : Code) (g : List Step) (low width : ℕ) where
  pub finds_local : (l n s : ℕ) (x : Exp) (i : VarId) → x ≡ e.Local i → i.0 < low → Finds code g low width l n n i.0 x s
  finds_local l n s x i is below = record {
    does = λ k r q ls wide more.
        let v : local (take low r) i.0 ≡ local r i.0 = local_take low i.0 r below in
        let p : part x ≡ _ = part_out x (Exp-F.Local i) (ap out-Exp is ∙ e.outs-Local i) in
        does_same code g (q (local r i.0)) _ (λ xs. ap (λ p. then (p.run (take low r) s xs) q) p ∙ ap (λ y. q y xs) v) (more r (kept_all l r));
  }

  -- what sets the first free register finds its value there
  pub finds_set : (l n m s : ℕ) (x : Exp) → l < width → Sets code g low width l n m l x s → Finds code g low width l n m l x s
  finds_set l n m s e lt sets = record {
    does = λ k r q ls wide more.
        sets.does k r q ls wide
        (λ r' x kept. let here : local (slice_set r' l x) l ≡ x = put_here l r' x (omega (arith, lt, wide, kept.wide)) in
        subst (λ y. Does code g k m (slice_set r' l x) (q y) ls) here (more (slice_set r' l x) (kept_on l r r' (slice_set r' l x) kept (kept_put l r' (record { 0 = l }) x (omega arith)))));
  }

  -- an operator of two operands
  pub sets_binary : (l n j i s a b : ℕ) (to : Reg) (m : NodeId) (z x y : Exp) (o : BinOp) (node : Node) → z ≡ e.Binary o x y → low ≤ l → to.0 < width → a ≤ l
      → Finds code g low width l n j a x s → Finds code g low width (l + 1) j i b y (s + (part x).sites)
      → At g i node (links.One m) → node.instr ≡ instr.Binary to o (record { 0 = a }) (record { 0 = b }) → Sets code g low width l n m.0 to.0 z s
  sets_binary l n j i s a b to m z x y o node is lo tw al left right at ins = record {
    does = λ k r q ls wide more.
        let p : part z ≡ _ = part_out z (Exp-F.Binary o x y) (ap out-Exp is ∙ e.outs-Binary o x y) in
        let s' : ℕ = s + (part x).sites in
        let q1 : (v : Value) → Asks Done = λ v. eval (take low r) y s' >>= λ w. result (operated o v w) >>= q in
        does_same code g (eval (take low r) x s >>= q1) _
        (λ xs. ap (λ p. then (p.run (take low r) s xs) q) p ∙ (then_then (eval (take low r) x s xs) _ q ∙ then_same (eval (take low r) x s xs) _ q1 (λ v ys. then_then (eval (take low r) y s' ys) _ q)))
        (left.does k r q1 ls wide (λ r1 h1.
        let q2 : (w : Value) → Asks Done = λ w. result (operated o (local r1 a) w) >>= q in
        let low1 : take low r1 ≡ take low r = (kept_less low l r r1 lo h1).same in
        subst (λ t. Does code g k j r1 (eval t y s' >>= q2) ls) low1
        (right.does k r1 q2 ls (omega (arith, wide, h1.wide)) (λ r2 h2.
        let a2 : local r2 a ≡ local r1 a = kept_reg (l + 1) a r1 r2 (omega (arith, al)) h2 in
        subst (λ v. Does code g k i r2 (result (operated o v (local r2 b)) >>= q) ls) a2
        (value_step code g k i r2 (result (operated o (local r2 a) (local r2 b))) q ls node to m at
        (λ xs. ap (λ c. node_run (record { item = node.item; instr = c }) r2 xs) ins)
        (omega (arith, tw, wide, h1.wide, h2.wide))
        (λ v. more r2 v (kept_on l r r1 r2 h1 (kept_less l (l + 1) r1 r2 (omega arith) h2))))))));
  }

  -- an instruction that sets a register from one operand
  pub sets_one : (l n j s a : ℕ) (to : Reg) (m : NodeId) (z x : Exp) (f : Value → Asks Value) (node : Node) → to.0 < width
      → ((t : List Value) (xs : List Value) → eval t z s xs ≡ (eval t x s >>= f) xs)
      → Finds code g low width l n j a x s → At g j node (links.One m)
      → ((r : List Value) (xs : List Value) → node_run node r xs ≡ (f (local r a) >>= λ x. on (put r to x)) xs) → Sets code g low width l n m.0 to.0 z s
  sets_one l n j s a to m z x f node tw is finds at does = record {
    does = λ k r q ls wide more.
        let q1 : (v : Value) → Asks Done = λ v. f v >>= q in
        does_same code g (eval (take low r) x s >>= q1) _ (λ xs. ap (λ d. then d q) (is (take low r) xs) ∙ then_then (eval (take low r) x s xs) f q)
        (finds.does k r q1 ls wide (λ r1 h1. value_step code g k j r1 (f (local r1 a)) q ls node to m at (does r1) (omega (arith, tw, wide, h1.wide)) (λ v. more r1 v h1)));
  }

  pub sets_negate : (l n j s a : ℕ) (to : Reg) (m : NodeId) (z x : Exp) (node : Node) → z ≡ e.Negate x → to.0 < width → Finds code g low width l n j a x s
      → At g j node (links.One m) → node.instr ≡ instr.Negate to (record { 0 = a }) → Sets code g low width l n m.0 to.0 z s
  sets_negate l n j s a to m z x node is tw finds at ins =
      sets_one l n j s a to m z x (λ v. result (negated v)) node tw (λ t xs. ap (λ p. p.run t s xs) (part_out z (Exp-F.Negate x) (ap out-Exp is ∙ e.outs-Negate x))) finds at
      (λ r xs. ap (λ c. node_run (record { item = node.item; instr = c }) r xs) ins)

  pub sets_not : (l n j s a : ℕ) (to : Reg) (m : NodeId) (z x : Exp) (node : Node) → z ≡ e.Not x → to.0 < width → Finds code g low width l n j a x s
      → At g j node (links.One m) → node.instr ≡ instr.Not to (record { 0 = a }) → Sets code g low width l n m.0 to.0 z s
  sets_not l n j s a to m z x node is tw finds at ins =
      sets_one l n j s a to m z x (λ v. give (flag (not (truth v)))) node tw (λ t xs. ap (λ p. p.run t s xs) (part_out z (Exp-F.Not x) (ap out-Exp is ∙ e.outs-Not x))) finds at
      (λ r xs. ap (λ c. node_run (record { item = node.item; instr = c }) r xs) ins)

  -- a value that is there at once: a number, null, the address of a global, or a copy of a local
  pub sets_given : (l n s : ℕ) (to : Reg) (m : NodeId) (z : Exp) (f : List Value → Value) (node : Node) → to.0 < width
      → ((r xs : List Value) → eval (take low r) z s xs ≡ give (f r) xs) → At g n node (links.One m)
      → ((r xs : List Value) → node_run node r xs ≡ on (put r to (f r)) xs) → Sets code g low width l n m.0 to.0 z s
  sets_given l n s to m z f node tw is at does = record {
    does = λ k r q ls wide more.
        does_same code g (give (f r) >>= q) _ (λ xs. ap (λ d. then d q) (is r xs))
        (value_step code g k n r (give (f r)) q ls node to m at (does r) (omega (arith, tw, wide)) (λ v. more r v (kept_all l r)));
  }

  -- a load from a place
  pub sets_load : (l n j s : ℕ) (to base : Reg) (index : Option (Reg × ℕ)) (field : ℕ) (at' : Option _) (m : NodeId) (z : Exp) (p : Place) (kind : LoadKind) (node : Node) → z ≡ e.Load p kind → to.0 < width
      → Aims code g low width l n j base index field p s → At g j node (links.One m) → node.instr ≡ instr.Load to base index field kind at'
      → site_of at' ≡ site_at (spot p).through (s + (spot p).sites) → Sets code g low width l n m.0 to.0 z s
  sets_load l n j s to base index field at' m z p kind node is tw aims at ins site = record {
    does = λ k r q ls wide more.
        let f : Value × ℤ → Asks Value = λ a. ask (Reads a.0 a.1 kind (site_at (spot p).through (s + (spot p).sites))) in
        let q1 : Value × ℤ → Asks Done = λ a. f a >>= q in
        does_same code g ((spot p).run (take low r) s >>= q1) _
        (λ xs. ap (λ p. then (p.run (take low r) s xs) q) (part_out z (Exp-F.Load p kind) (ap out-Exp is ∙ e.outs-Load p kind)) ∙ then_then ((spot p).run (take low r) s xs) f q)
        (aims.does k r q1 ls wide (λ r1 h1.
        value_step code g k j r1 (f (reg r1 base, displacement r1 index field)) q ls node to m at
        (λ xs. ap (λ c. node_run (record { item = node.item; instr = c }) r1 xs) ins ∙ ap (λ i. then (ask (Reads (reg r1 base) (displacement r1 index field) kind i) xs) (λ x. on (put r1 to x))) site)
        (omega (arith, tw, wide, h1.wide)) (λ v. more r1 v h1)));
  }

  -- an address moved by cells
  pub sets_address : (l n j s : ℕ) (to base : Reg) (index : Option (Reg × ℕ)) (field : ℕ) (m : NodeId) (z : Exp) (p : Place) (node : Node) → z ≡ e.AddressOf p → to.0 < width
      → Aims code g low width l n j base index field p s → At g j node (links.One m) → node.instr ≡ instr.Displace to base index field → Sets code g low width l n m.0 to.0 z s
  sets_address l n j s to base index field m z p node is tw aims at ins = record {
    does = λ k r q ls wide more.
        let f : Value × ℤ → Asks Value = λ a. result (displaced a.0 a.1) in
        let q1 : Value × ℤ → Asks Done = λ a. f a >>= q in
        does_same code g ((spot p).run (take low r) s >>= q1) _
        (λ xs. ap (λ p. then (p.run (take low r) s xs) q) (part_out z (Exp-F.AddressOf p) (ap out-Exp is ∙ e.outs-AddressOf p)) ∙ then_then ((spot p).run (take low r) s xs) f q)
        (aims.does k r q1 ls wide (λ r1 h1.
        value_step code g k j r1 (f (reg r1 base, displacement r1 index field)) q ls node to m at
        (λ xs. ap (λ c. node_run (record { item = node.item; instr = c }) r1 xs) ins)
        (omega (arith, tw, wide, h1.wide)) (λ v. more r1 v h1)));
  }

  -- the registers of a place: of its base alone, and of its base and its index
  pub aims_plain : (l n m s a : ℕ) (p : Place) → (out-Place p).index ≡ None → Finds code g low width l n m a (out-Place p).base s
      → Aims code g low width l n m (record { 0 = a }) None (out-Place p).field p s
  aims_plain l n m s a p none finds = record {
    does = λ k r q ls wide more.
        let q1 : Value → Asks Done = λ x. q (x, pos 0 +ℤ pos (out-Place p).field) in
        does_same code g (eval (take low r) (out-Place p).base s >>= q1) _
        (λ xs. ap (λ d. then (d.run (take low r) s xs) q) (spot_by p None none) ∙ then_then {B = Value × ℤ} (eval (take low r) (out-Place p).base s xs) _ q)
        (finds.does k r q1 ls wide more);
  }

  pub aims_indexed : (l n j m s a b : ℕ) (scale : ℕ) (x : Exp) (p : Place) → low ≤ l → a ≤ l → (out-Place p).index ≡ Some (x, scale) → Finds code g low width l n j a (out-Place p).base s
      → Finds code g low width (l + 1) j m b x (s + (part (out-Place p).base).sites) → Aims code g low width l n m (record { 0 = a }) (Some (record { 0 = b }, scale)) (out-Place p).field p s
  aims_indexed l n j m s a b scale x p lo al some left right = record {
    does = λ k r q ls wide more.
        let base : Exp = (out-Place p).base in
        let s' : ℕ = s + (part base).sites in
        let q2 : (v w : Value) → Asks Done = λ v w. q (v, (number w *ℤ pos scale) +ℤ pos (out-Place p).field) in
        let q1 : Value → Asks Done = λ v. eval (take low r) x s' >>= q2 v in
        does_same code g (eval (take low r) base s >>= q1) _
        (λ xs. ap (λ d. then (d.run (take low r) s xs) q) (spot_by p (Some (x, scale)) some)
        ∙ (then_then {B = Value × ℤ} (eval (take low r) base s xs) _ q ∙ then_same (eval (take low r) base s xs) _ q1 (λ v ys. regrouped q v (eval (take low r) x s' ys))))
        (left.does k r q1 ls wide (λ r1 h1.
        subst (λ t. Does code g k j r1 (eval t x s' >>= q2 (local r1 a)) ls) (kept_less low l r r1 lo h1).same
        (right.does k r1 (q2 (local r1 a)) ls (omega (arith, wide, h1.wide)) (λ r2 h2.
        subst (λ v. Does code g k m r2 (q2 v (local r2 b)) ls) (kept_reg (l + 1) a r1 r2 (omega (arith, al)) h2)
        (more r2 (kept_on l r r1 r2 h1 (kept_less l (l + 1) r1 r2 (omega arith) h2)))))));
  }
    where
      regrouped : (q : Value × ℤ → Asks Done) (v : Value) (d : Got Value)
          → then {A = Value × ℤ} (then (then d (λ y. give (number y *ℤ pos scale))) (λ c. give (v, c +ℤ pos (out-Place p).field))) q ≡ then d (λ w. q (v, (number w *ℤ pos scale) +ℤ pos (out-Place p).field))
      regrouped q v (Is y rest) = refl
      regrouped q v (Wants w) = refl
      regrouped q v No_result = refl

  -- conditions
  pub decides_branch : (l n j s a : ℕ) (one other : NodeId) (z : Exp) (node : Node) → Finds code g low width l n j a z s
      → At g j node (links.Two one other) → node.instr ≡ instr.Branch (record { 0 = a }) → Decides code g low width l n one.0 other.0 z s
  decides_branch l n j s a one other z node finds at ins = record {
    does = λ k r q ls wide yes' no'.
        finds.does k r (λ x. q (truth x)) ls wide (λ r1 h1. branch_step code g k j r1 q ls node (record { 0 = a }) one other at ins (yes' r1 h1) (no' r1 h1));
  }

  truth_flag : (b : Bool) → truth (flag b) ≡ b
  truth_flag true = refl
  truth_flag false = refl

  -- what an `&&` or `||` does after its left operand, where its truth goes on to q
  abbrev after : (b : Bool) → List Value → Exp → ℕ → (Bool → Asks Done) → Bool → Asks Done
  after b t y s q c = unless c b (eval t y s) >>= λ v. q (truth v)

  after_right : (b : Bool) (q : Bool → Asks Done) (d : Got Value) → then (then d (λ y. give (flag (truth y)))) (λ v. q (truth v)) ≡ then d (λ y. q (truth y))
  after_right b q (Is y rest) = ap (λ c. q c rest) (truth_flag (truth y))
  after_right b q (Wants w) = refl
  after_right b q No_result = refl

  pub decides_and : (l n j s one other : ℕ) (z x y : Exp) → low ≤ l → z ≡ e.And x y → Decides code g low width l n j other x s → Decides code g low width l j one other y (s + (part x).sites)
      → Decides code g low width l n one other z s
  decides_and l n j s one other z x y lo is left right = record {
    does = λ k r q ls wide yes' no'.
        let s' : ℕ = s + (part x).sites in
        let q1 : Bool → Asks Done = λ c. after false (take low r) y s' q (not c) in
        does_same code g (eval (take low r) x s >>= λ v. q1 (truth v)) _
        (λ xs. ap (λ d. then (d.run (take low r) s xs) (λ v. q (truth v))) (part_out z (Exp-F.And x y) (ap out-Exp is ∙ e.outs-And x y)) ∙ then_then (eval (take low r) x s xs) _ _)
        (left.does k r q1 ls wide
        (λ r1 h1.
        does_same code g (eval (take low r) y s' >>= λ v. q (truth v)) _ (λ xs. after_right false q (eval (take low r) y s' xs))
        (subst (λ t. Does code g k j r1 (eval t y s' >>= λ v. q (truth v)) ls) (kept_less low l r r1 lo h1).same
        (right.does k r1 q ls (omega (arith, wide, h1.wide)) (λ r2 h2. yes' r2 (kept_on l r r1 r2 h1 h2)) (λ r2 h2. no' r2 (kept_on l r r1 r2 h1 h2)))))
        (λ r1 h1. no' r1 h1));
  }

  pub decides_or : (l n j s one other : ℕ) (z x y : Exp) → low ≤ l → z ≡ e.Or x y → Decides code g low width l n one j x s → Decides code g low width l j one other y (s + (part x).sites)
      → Decides code g low width l n one other z s
  decides_or l n j s one other z x y lo is left right = record {
    does = λ k r q ls wide yes' no'.
        let s' : ℕ = s + (part x).sites in
        let q1 : Bool → Asks Done = λ c. after true (take low r) y s' q c in
        does_same code g (eval (take low r) x s >>= λ v. q1 (truth v)) _
        (λ xs. ap (λ d. then (d.run (take low r) s xs) (λ v. q (truth v))) (part_out z (Exp-F.Or x y) (ap out-Exp is ∙ e.outs-Or x y)) ∙ then_then (eval (take low r) x s xs) _ _)
        (left.does k r q1 ls wide (λ r1 h1. yes' r1 h1)
        (λ r1 h1.
        does_same code g (eval (take low r) y s' >>= λ v. q (truth v)) _ (λ xs. after_right true q (eval (take low r) y s' xs))
        (subst (λ t. Does code g k j r1 (eval t y s' >>= λ v. q (truth v)) ls) (kept_less low l r r1 lo h1).same
        (right.does k r1 q ls (omega (arith, wide, h1.wide)) (λ r2 h2. yes' r2 (kept_on l r r1 r2 h1 h2)) (λ r2 h2. no' r2 (kept_on l r r1 r2 h1 h2))))));
  }

  -- an expression whose value is the flag of its truth
  abbrev pub IsFlag : Exp → ℕ → Type 0
  IsFlag z s = (t xs : List Value) (q : Value → Asks Done) → then (eval t z s xs) q ≡ then (eval t z s xs) (λ v. q (flag (truth v)))

  flag_given : (b : Bool) (q : Value → Asks Done) (xs : List Value) → q (flag b) xs ≡ q (flag (truth (flag b))) xs
  flag_given true q xs = refl
  flag_given false q xs = refl

  flag_right : (b : Bool) (q : Value → Asks Done) (d : Got Value) → then (then d (λ y. give (flag (truth y)))) q ≡ then (then d (λ y. give (flag (truth y)))) (λ v. q (flag (truth v)))
  flag_right b q (Is y rest) = flag_given (truth y) q rest
  flag_right b q (Wants w) = refl
  flag_right b q No_result = refl

  flag_unless : (c b : Bool) (p : Asks Value) (q : Value → Asks Done) (xs : List Value) → then (unless c b p xs) q ≡ then (unless c b p xs) (λ v. q (flag (truth v)))
  flag_unless true b p q xs = flag_given b q xs
  flag_unless false b p q xs = flag_right b q (p xs)

  flag_after : (d : Got Value) (f : Value → Bool) (b : Bool) (p : Asks Value) (q : Value → Asks Done)
      → then (then d (λ v. unless (f v) b p)) q ≡ then (then d (λ v. unless (f v) b p)) (λ v. q (flag (truth v)))
  flag_after (Is x rest) f b p q = flag_unless (f x) b p q rest
  flag_after (Wants w) f b p q = refl
  flag_after No_result f b p q = refl

  pub and_is_flag : (z x y : Exp) (s : ℕ) → z ≡ e.And x y → IsFlag z s
  and_is_flag z x y s is t xs q =
      let p : part z ≡ _ = part_out z (Exp-F.And x y) (ap out-Exp is ∙ e.outs-And x y) in
      ap (λ d. then (d.run t s xs) q) p ∙ (flag_after (eval t x s xs) (λ v. not (truth v)) false (eval t y (s + (part x).sites)) q ∙ sym (ap (λ d. then (d.run t s xs) (λ v. q (flag (truth v)))) p))

  pub or_is_flag : (z x y : Exp) (s : ℕ) → z ≡ e.Or x y → IsFlag z s
  or_is_flag z x y s is t xs q =
      let p : part z ≡ _ = part_out z (Exp-F.Or x y) (ap out-Exp is ∙ e.outs-Or x y) in
      ap (λ d. then (d.run t s xs) q) p ∙ (flag_after (eval t x s xs) truth true (eval t y (s + (part x).sites)) q ∙ sym (ap (λ d. then (d.run t s xs) (λ v. q (flag (truth v)))) p))

  pub sets_flag : (l n s : ℕ) (to : Reg) (one other : ℕ) (m : NodeId) (z : Exp) (node node' : Node) → to.0 < width → IsFlag z s → Decides code g low width l n one other z s
      → At g one node (links.One m) → node.instr ≡ instr.Put to (value.Num (pos 1)) → At g other node' (links.One m) → node'.instr ≡ instr.Put to (value.Num (pos 0)) → Sets code g low width l n m.0 to.0 z s
  sets_flag l n s to one other m z node node' tw flags decides at ins at' ins' = record {
    does = λ k r q ls wide more.
        does_same code g (eval (take low r) z s >>= λ v. q (flag (truth v))) _ (λ xs. flags (take low r) xs q)
        (decides.does k r (λ b. q (flag b)) ls wide
        (λ r1 h1. value_step code g k one r1 (give (value.Num (pos 1))) q ls node to m at (λ xs. ap (λ c. node_run (record { item = node.item; instr = c }) r1 xs) ins) (omega (arith, tw, wide, h1.wide)) (λ x. more r1 x h1))
        (λ r1 h1. value_step code g k other r1 (give (value.Num (pos 0))) q ls node' to m at' (λ xs. ap (λ c. node_run (record { item = node'.item; instr = c }) r1 xs) ins') (omega (arith, tw, wide, h1.wide)) (λ x. more r1 x h1)));
  }
