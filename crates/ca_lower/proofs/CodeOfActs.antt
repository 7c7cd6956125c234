-- Code of items, by what stands behind it.
use Rattle.std.proofs.Common.{◌≡◌, ℕ, ◌+◌, ◌<◌, ◌≤◌, Bool, List, ◌∷◌, map, length, Option, refl, sym, ap, ◌∙◌, subst, arith}
use Rattle.std.specs.Prelude.{ℤ, pos, ◌*ℤ◌, take, slice_set}
use Rattle.std.proofs.lemmas.List.{length-set}
use Rattle.ca_tree.specs.declared.numbers.VarId.{VarId}
use Rattle.ca_tree.specs.declared.numbers.SiteId.{SiteId}
use Rattle.ca_model.specs.declared.values.Value.{Value}
use Rattle.ca_model.specs.declared.tree.BinOp.{BinOp}
use Rattle.ca_model.specs.declared.tree.LoadKind.TheVariants as kind
use Rattle.ca_model.specs.declared.tree.Exp.{Exp}
use Rattle.ca_model.specs.declared.tree.Place.{Place}
use Rattle.ca_model.specs.declared.tree.Act.TheVariants as act
use Rattle.ca_model.specs.declared.tree.Target.TheVariants as target
use Rattle.ca_model.specs.declared.tree.Item.{Item}
use Rattle.ca_model.specs.Arith.{number, operated}
use Rattle.ca_model.specs.Asks.{Reads, Writes, Mallocs, Got, Is, Wants, No_result, Asks, then, ◌>>=◌, ◌>>◌, give, ask, result}
use Rattle.ca_model.specs.Eval.{part, spot, eval, eval_all, local, access, site_at}
use Rattle.ca_model.specs.Items.{Done, done, set, act_run, Aim}
use Rattle.ca_model.specs.Frames.{Code, Left, item_run}
use Rattle.ca_flow.specs.declared.instr.Reg.{Reg}
use Rattle.ca_flow.specs.declared.instr.AtSite.{AtSite}
use Rattle.ca_flow.specs.declared.instr.Instr.TheVariants as instr
use Rattle.ca_flow.specs.declared.instr.Links.TheVariants as links
use Rattle.ca_flow.specs.declared.instr.NodeId.{NodeId}
use Rattle.ca_flow.specs.declared.instr.Node.{Node}
use Rattle.ca_flow.specs.declared.instr.Step.{Step}
use Rattle.ca_flow.specs.Instructions.{reg, put, on, displacement, site_of, node_run}
use Rattle.ca_flow.specs.Does.{Does, step}
use Rattle.ca_flow.proofs.Doing.{then_then, then_same, does_same}
use Rattle.ca_lower.specs.Lowered.{Kept, Finds, FindsAll, Aims, Works, Ends, home, homes}
use Rattle.ca_lower.proofs.Rows.{kept_on, kept_less, kept_put, kept_reg, put_here, take_put}
use Rattle.ca_lower.proofs.CodeOfParts.{At, value_step, effect_step}
use Rattle.ca_lower.proofs.CodeOfControl.{IndexBelow, kept_index}

module _ (code : Code) (g : List Step) where
  -- an instruction that control doesn't leave
  pub end_step : (k n : ℕ) (r : List Value) (p : Asks Value) (q : Asks Done) (ls : List Left) (node : Node) → At g n node links.Nowhere → ((xs : List Value) → node_run node r xs ≡ (p >> on r) xs) → Does code g k n r (p >> q) ls
  end_step k n r p q ls node is does =
      step {j = k} (record { node = node; links = links.Nowhere }) (λ s. q) is (omega arith)
      (λ xs. by_got (p xs) ∙ ap (λ d. then d (λ s. q)) (sym (does xs)))
      (λ r' b m' xs ys gives leads. cc)
    where
      by_got : (d : Got Value) → then d (λ x. q) ≡ then (then d (λ x. on r)) (λ s. q)
      by_got (Is x rest) = refl
      by_got (Wants w) = refl
      by_got No_result = refl

module _ (code : Code) (g : List Step) (low width : ℕ) where
  -- code from n to m that leaves something in registers, while the locals stay
  pub record Leaves {A : Type 0} (n m : ℕ) (run : List Value → Asks A) (left : List Value → A) : Type 0 where
    pub does :
        (k : ℕ) (r : List Value) (q : A → Asks Done) (ls : List Left) → width ≤ length r
        → ((r' : List Value) → Kept low r r' → Does code g k m r' (q (left r')) ls)
        → Does code g k n r (run (take low r) >>= q) ls

  pub leaves_value : (l n m a : ℕ) (e : Exp) (s : ℕ) → low ≤ l → Finds code g low width l n m a e s → Leaves n m (λ t. eval t e s) (λ r. local r a)
  leaves_value l n m a e s lo finds = record { does = λ k r q ls wide more. finds.does k r q ls wide (λ r' h. more r' (kept_less low l r r' lo h)) }

  pub leaves_all : (l n m : ℕ) (es : List Exp) (s : ℕ) → low ≤ l → FindsAll code g low width l n m es s → Leaves n m (λ t. eval_all t es s) (λ r. map (reg r) (homes es l))
  leaves_all l n m es s lo finds = record { does = λ k r q ls wide more. finds.does k r q ls wide (λ r' h. more r' (kept_less low l r r' lo h)) }

  -- ---- arguments

  pub finds_one_more : (l n j m s : ℕ) (e : Exp) (es : List Exp) → low ≤ l → home e l ≤ l → Finds code g low width l n j (home e l) e s → FindsAll code g low width (l + 1) j m es (s + (part e).sites) → FindsAll code g low width l n m (e ∷ es) s
  finds_one_more l n j m s e es lo at first rest = record {
    does = λ k r q ls wide more.
        let t : ℕ = s + (part e).sites in
        let q1 : Value → Asks Done = λ v. eval_all (take low r) es t >>= λ vs. q (v ∷ vs) in
        does_same code g (eval (take low r) e s >>= q1) _
        (λ xs. then_then {B = List Value} (eval (take low r) e s xs) _ q ∙ then_same (eval (take low r) e s xs) _ q1 (λ v ys. then_then {B = List Value} (eval_all (take low r) es t ys) _ q))
        (first.does k r q1 ls wide (λ r1 h1.
        subst (λ x. Does code g k j r1 (eval_all x es t >>= λ vs. q (local r1 (home e l) ∷ vs)) ls) (kept_less low l r r1 lo h1).same
        (rest.does k r1 (λ vs. q (local r1 (home e l) ∷ vs)) ls (omega (arith, wide, h1.wide)) (λ r2 h2.
        subst (λ v. Does code g k m r2 (q (v ∷ map (reg r2) (homes es (l + 1)))) ls) (kept_reg (l + 1) (home e l) r1 r2 (omega (arith, at)) h2)
        (more r2 (kept_on l r r1 r2 h1 (kept_less l (l + 1) r1 r2 (omega arith) h2)))))));
  }

  -- ---- items

  pub ends_work : (n m : ℕ) (i : Item) → Ends code g low width n i → Works code g low width n m i
  ends_work n m i ends = record { does = λ k r ls wide more. ends.does k r ls wide }

  -- an item that only asks
  pub ask_works : (n : ℕ) (m : NodeId) (i : Item) (p : Asks Value) (node : Node) → ((l xs : List Value) → item_run code i l xs ≡ (p >> done l) xs) → At g n node (links.One m)
      → ((r xs : List Value) → node_run node r xs ≡ (p >> on r) xs) → Works code g low width n m.0 i
  ask_works n m i p node is at does = record {
    does = λ k r ls wide more. does_same code g (p >> done (take low r)) _ (is (take low r)) (effect_step code g k n r p (done (take low r)) ls node m at (does r) (more r refl));
  }

  -- an item that sets a local to a value that is there
  pub given_works : (n : ℕ) (m : NodeId) (i : Item) (x : VarId) (v : Value) (node : Node) → x.0 < width → ((l xs : List Value) → item_run code i l xs ≡ set l x v xs) → At g n node (links.One m)
      → ((r xs : List Value) → node_run node r xs ≡ on (put r (record { 0 = x.0 }) v) xs) → Works code g low width n m.0 i
  given_works n m i x v node xw is at does = record {
    does = λ k r ls wide more.
        does_same code g (give v >>= λ y. set (take low r) x y) _ (is (take low r))
        (value_step code g k n r (give v) (λ y. set (take low r) x y) ls node (record { 0 = x.0 }) m at (does r) (omega (arith, xw, wide))
        (λ y. subst (λ l. Does code g k m.0 (slice_set r x.0 y) (done l) ls) (take_put low x.0 r y) (more (slice_set r x.0 y) (length-set r x.0 y))));
  }

  module _ {A : Type 0} (n j : ℕ) (run : List Value → Asks A) (left : List Value → A) (leaves : Leaves n j run left) where
    -- an item that asks by what was left, and goes on
    pub effect_works : (m : NodeId) (i : Item) (f : A → Asks Value) (node : Node) → ((l xs : List Value) → item_run code i l xs ≡ (run l >>= λ v. f v >> done l) xs) → At g j node (links.One m)
        → ((r xs : List Value) → node_run node r xs ≡ (f (left r) >> on r) xs) → Works code g low width n m.0 i
    effect_works m i f node is at does = record {
      does = λ k r ls wide more.
          let q : A → Asks Done = λ v. f v >> done (take low r) in
          does_same code g (run (take low r) >>= q) _ (is (take low r))
          (leaves.does k r q ls wide (λ r1 h1.
          effect_step code g k j r1 (f (left r1)) (done (take low r)) ls node m at (does r1) (subst (λ l. Does code g k m.0 r1 (done l) ls) h1.same (more r1 h1.wide))));
    }

    -- an item that asks by it, and that control doesn't leave
    pub ends_by : (i : Item) (f : A → Asks Value) (node : Node) → ((l xs : List Value) → item_run code i l xs ≡ (run l >>= λ v. f v >> done l) xs) → At g j node links.Nowhere
        → ((r xs : List Value) → node_run node r xs ≡ (f (left r) >> on r) xs) → Ends code g low width n i
    ends_by i f node is at does = record {
      does = λ k r ls wide.
          let q : A → Asks Done = λ v. f v >> done (take low r) in
          does_same code g (run (take low r) >>= q) _ (is (take low r)) (leaves.does k r q ls wide (λ r1 h1. end_step code g k j r1 (f (left r1)) (done (take low r)) ls node at (does r1)));
    }

    -- an item that sets a local to what comes of it
    pub result_works : (m : NodeId) (i : Item) (x : VarId) (f : List Value → A → Asks Value) (node : Node) → x.0 < width → ((l xs : List Value) → item_run code i l xs ≡ (run l >>= λ v. f l v >>= λ y. set l x y) xs) → At g j node (links.One m)
        → ((r xs : List Value) → node_run node r xs ≡ (f (take low r) (left r) >>= λ y. on (put r (record { 0 = x.0 }) y)) xs) → Works code g low width n m.0 i
    result_works m i x f node xw is at does = record {
      does = λ k r ls wide more.
          let q : A → Asks Done = λ v. f (take low r) v >>= λ y. set (take low r) x y in
          does_same code g (run (take low r) >>= q) _ (is (take low r))
          (leaves.does k r q ls wide (λ r1 h1.
          subst (λ t. Does code g k j r1 (f t (left r1) >>= λ y. set (take low r) x y) ls) h1.same
          (value_step code g k j r1 (f (take low r1) (left r1)) (λ y. set (take low r) x y) ls node (record { 0 = x.0 }) m at (does r1) (omega (arith, xw, wide, h1.wide))
          (λ y. subst (λ l. Does code g k m.0 (slice_set r1 x.0 y) (done l) ls) (take_put low x.0 r1 y ∙ ap (λ l. slice_set l x.0 y) h1.same) (more (slice_set r1 x.0 y) (length-set r1 x.0 y ∙ h1.wide))))));
    }

  -- ---- items with a place; its base and its index stand in registers below l

  store_end : (k i l b : ℕ) (y : Value) (r r1 r2 : List Value) (ls : List Left) (base : Reg) (index : Option (Reg × ℕ)) (field : ℕ) (at' : Option AtSite) (st : Option SiteId) (next : NodeId) (node : Node) → low ≤ l → base.0 < l → IndexBelow l index
      → Kept low r r1 → Kept l r1 r2 → local r2 b ≡ y → At g i node (links.One next) → node.instr ≡ instr.Store (record { 0 = b }) base index field at' → site_of at' ≡ st
      → Does code g k next.0 r2 (done (take low r2)) ls → Does code g k i r2 (ask (Writes (reg r1 base) (displacement r1 index field) y st) >> done (take low r)) ls
  store_end k i l b y r r1 r2 ls base index field at' st next node lo bl il h1 h2 here at ins site more =
      let w : Value → ℤ → Value → Asks Value = λ x d y. ask (Writes x d y st) in
      subst (λ z. Does code g k i r2 (w z (displacement r1 index field) y >> done (take low r)) ls) (kept_reg l base.0 r1 r2 bl h2)
      (subst (λ z. Does code g k i r2 (w (reg r2 base) z y >> done (take low r)) ls) (kept_index l index field r1 r2 il h2)
      (subst (λ z. Does code g k i r2 (w (reg r2 base) (displacement r2 index field) z >> done (take low r)) ls) here
      (effect_step code g k i r2 (w (reg r2 base) (displacement r2 index field) (local r2 b)) (done (take low r)) ls node next at
      (λ xs. ap (λ c. node_run (record { item = node.item; instr = c }) r2 xs) ins ∙ ap (λ o. then (ask (Writes (reg r2 base) (displacement r2 index field) (local r2 b) o) xs) (λ x. on r2)) site)
      (subst (λ z. Does code g k next.0 r2 (done z) ls) ((kept_less low l r1 r2 lo h2).same ∙ h1.same) more))))

  -- a `malloc` through a place: the place, the count, the `malloc`, and the store
  pub malloc_works : (n j i' i'' s b : ℕ) (base : Reg) (index : Option (Reg × ℕ)) (field : ℕ) (at' : Option AtSite) (next write' : NodeId) (i : Item) (p : Place) (e : Exp) (size : ℕ) (acquiring : Bool) (node node' : Node) → i.act ≡ act.Malloc (target.Place p) e size → code.first_site i.id ≡ s
      → (l : ℕ) → low ≤ l → l < width → base.0 < l → IndexBelow l index → Aims code g low width low n j base index field p s → Finds code g low width l j i' b e (s + (spot p).sites)
      → At g i' node (links.One write') → node.instr ≡ instr.Malloc (record { 0 = l }) (record { 0 = b }) size acquiring → node.item ≡ i.id
      → At g write'.0 node' (links.One next) → node'.instr ≡ instr.Store (record { 0 = l }) base index field at' → site_of at' ≡ site_at (spot p).through (s + (spot p).sites + (part e).sites) → Works code g low width n next.0 i
  malloc_works n j i' i'' s b base index field at' next write' i p e size acquiring node node' is first l lo lw bl il aims finds at ins own at'' ins' site = record {
    does = λ k r ls wide more.
        let t : ℕ = s + (spot p).sites in
        let st : Option SiteId = site_at (spot p).through (t + (part e).sites) in
        let w : Value × ℤ → Value → Asks Done = λ a y. ask (Writes a.0 a.1 y st) >> done (take low r) in
        let m : Value → Asks Value = λ x. ask (Mallocs (number x *ℤ pos size) i.id) in
        let q : Value × ℤ → Asks Done = λ a. eval (take low r) e t >>= λ x. m x >>= w a in
        does_same code g ((spot p).run (take low r) s >>= q) _
        (λ xs. ap (λ a. act_run a i.id (take low r) (code.first_site i.id) xs) is ∙ (ap (λ f. act_run (act.Malloc (target.Place p) e size) i.id (take low r) f xs) first ∙ then_then {B = Aim} ((spot p).run (take low r) s xs) _ _))
        (aims.does k r q ls wide (λ r1 h1.
        let a1 : Value × ℤ = (reg r1 base, displacement r1 index field) in
        subst (λ x. Does code g k j r1 (eval x e t >>= λ x. m x >>= w a1) ls) h1.same
        (finds.does k r1 (λ x. m x >>= w a1) ls (omega (arith, wide, h1.wide)) (λ r2 h2.
        value_step code g k i' r2 (m (local r2 b)) (w a1) ls node (record { 0 = l }) write' at
        (λ xs. ap (λ c. node_run (record { item = node.item; instr = c }) r2 xs) ins ∙ ap (λ o. then (ask (Mallocs (number (local r2 b) *ℤ pos size) o) xs) (λ x. on (put r2 (record { 0 = l }) x))) own)
        (omega (arith, lw, wide, h1.wide, h2.wide))
        (λ y.
        let r3 : List Value = put r2 (record { 0 = l }) y in
        let h3 : Kept l r1 r3 = kept_on l r1 r2 r3 h2 (kept_put l r2 (record { 0 = l }) y (omega arith)) in
        store_end k write'.0 l l y r r1 r3 ls base index field at' st next node' lo bl il h1 h3 (put_here l r2 y (omega (arith, lw, wide, h1.wide, h2.wide))) at'' ins' site (more r3 (h3.wide ∙ h1.wide)))))));
  }

  -- an update through a place: the place, its cell, the value, the operator, and the store
  pub update_works : (n j i' i'' s s' b : ℕ) (base : Reg) (index : Option (Reg × ℕ)) (field : ℕ) (at' at'' : Option AtSite) (next write' right' : NodeId) (i : Item) (p : Place) (o : BinOp) (e : Exp) (node node' node'' : Node) → i.act ≡ act.Update (target.Place p) o e
      → code.first_site i.id ≡ s → s' ≡ s + (spot p).sites + access (spot p).through
      → (l : ℕ) → low ≤ l → l < width → base.0 < l → IndexBelow l index → Aims code g low width low n j base index field p s → Finds code g low width (l + 1) right'.0 i' b e s'
      → At g j node'' (links.One right') → node''.instr ≡ instr.Load (record { 0 = l }) base index field kind.Int at'' → site_of at'' ≡ site_at (spot p).through (s + (spot p).sites)
      → At g i' node (links.One write') → node.instr ≡ instr.Binary (record { 0 = l }) o (record { 0 = l }) (record { 0 = b })
      → At g write'.0 node' (links.One next) → node'.instr ≡ instr.Store (record { 0 = l }) base index field at' → site_of at' ≡ site_at (spot p).through (s' + (part e).sites) → Works code g low width n next.0 i
  update_works n j i' i'' s s' b base index field at' at'' next write' right' i p o e node node' node'' is first sites l lo lw bl il aims finds at3 ins3 site3 at ins at2 ins2 site = record {
    does = λ k r ls wide more.
        let t : ℕ = s + (spot p).sites in
        let t' : ℕ = t + access (spot p).through in
        let st : Option SiteId = site_at (spot p).through (t' + (part e).sites) in
        let rd : Value × ℤ → Asks Value = λ a. ask (Reads a.0 a.1 kind.Int (site_at (spot p).through t)) in
        let w : Value × ℤ → Value → Asks Done = λ a z. ask (Writes a.0 a.1 z st) >> done (take low r) in
        let q : Value × ℤ → Asks Done = λ a. rd a >>= λ x. eval (take low r) e t' >>= λ y. result (operated o x y) >>= w a in
        does_same code g ((spot p).run (take low r) s >>= q) _
        (λ xs. ap (λ a. act_run a i.id (take low r) (code.first_site i.id) xs) is ∙ (ap (λ f. act_run (act.Update (target.Place p) o e) i.id (take low r) f xs) first ∙ then_then {B = Aim} ((spot p).run (take low r) s xs) _ _))
        (aims.does k r q ls wide (λ r1 h1.
        let a1 : Value × ℤ = (reg r1 base, displacement r1 index field) in
        value_step code g k j r1 (rd a1) (λ x. eval (take low r) e t' >>= λ y. result (operated o x y) >>= w a1) ls node'' (record { 0 = l }) right' at3
        (λ xs. ap (λ c. node_run (record { item = node''.item; instr = c }) r1 xs) ins3 ∙ ap (λ i. then (ask (Reads (reg r1 base) (displacement r1 index field) kind.Int i) xs) (λ x. on (put r1 (record { 0 = l }) x))) site3)
        (omega (arith, lw, wide, h1.wide))
        (λ x.
        let r2 : List Value = put r1 (record { 0 = l }) x in
        let h2 : Kept l r1 r2 = kept_put l r1 (record { 0 = l }) x (omega arith) in
        let here : local r2 l ≡ x = put_here l r1 x (omega (arith, lw, wide, h1.wide)) in
        subst (λ d. Does code g k right'.0 r2 (eval d e t' >>= λ y. result (operated o x y) >>= w a1) ls) ((kept_less low l r1 r2 lo h2).same ∙ h1.same)
        (subst (λ u. Does code g k right'.0 r2 (eval (take low r2) e u >>= λ y. result (operated o x y) >>= w a1) ls) sites
        (finds.does k r2 (λ y. result (operated o x y) >>= w a1) ls (omega (arith, wide, h1.wide, h2.wide)) (λ r3 h3.
        let same : local r3 l ≡ x = kept_reg (l + 1) l r2 r3 (omega arith) h3 ∙ here in
        subst (λ v. Does code g k i' r3 (result (operated o v (local r3 b)) >>= w a1) ls) same
        (value_step code g k i' r3 (result (operated o (local r3 l) (local r3 b))) (w a1) ls node (record { 0 = l }) write' at
        (λ xs. ap (λ c. node_run (record { item = node.item; instr = c }) r3 xs) ins)
        (omega (arith, lw, wide, h1.wide, h2.wide, h3.wide))
        (λ z.
        let r4 : List Value = put r3 (record { 0 = l }) z in
        let h4 : Kept l r1 r4 = kept_on l r1 r2 r4 h2 (kept_on l r2 r3 r4 (kept_less l (l + 1) r2 r3 (omega arith) h3) (kept_put l r3 (record { 0 = l }) z (omega arith))) in
        store_end k write'.0 l l z r r1 r4 ls base index field at' st next node' lo bl il h1 h4 (put_here l r3 z (omega (arith, lw, wide, h1.wide, h2.wide, h3.wide))) at2 ins2
        (site ∙ ap (λ u. site_at (spot p).through (u + (part e).sites)) sites) (more r4 (h4.wide ∙ h1.wide))))))))));
  }
