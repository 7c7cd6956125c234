-- Where control goes on from what is left of a body, and the links that this rests on: each silent step keeps them.
use Rattle.std.proofs.Common.{◌≡◌, Bool, true, false, List, [], ◌∷◌, ◌++◌, map, Option, Some, None, refl, sym, ap, subst}
use Rattle.std.specs.Prelude.{Contains}
use Rattle.std.proofs.lemmas.List.Elements.{Contains-append_left, Contains-append_right}
use Rattle.ca_tree.specs.declared.numbers.FunId.{FunId}
use Rattle.ca_model.specs.declared.tree.Act.{Act}
use Rattle.ca_model.specs.declared.tree.Act.TheVariants as act
use Rattle.ca_model.specs.declared.tree.Item.{Item}
use Rattle.ca_model.specs.declared.tree.Stmt.{Stmt, out-Stmt, map-Stmt}
use Rattle.ca_model.specs.declared.tree.Stmt.TheOpen.{Stmt-F}
use Rattle.ca_model.specs.Frames.{Left, Enter, Begin, After, Run, Loop, Next, Leave, begins, past_leave, past_next, past_stmt, past, past_first}
use Rattle.ca_model.specs.Links.{Ways, Flow, to_next, in_loop, after_act, block_first, block_links, or_cond, link_to, stmt_flow, flow}
use Rattle.ca_model.specs.Begun.{opening_item}
use Rattle.ca_model.specs.Follows.{first_head}
use Rattle.ca_model.proofs.Equations.{flow_out}
use Rattle.ca_model.proofs.Returning.{Ends, StmtEnds, EndsNow}
use Rattle.ca_model.proofs.Members.{in_none, in_one, at_head, at_tail}

-- in a loop's body, by where control goes on from the loop
abbrev pub turn : Item → Option Item → Ways → Ways
turn c step w = record { next = or_cond step c; leave = w.leave; again = or_cond step c }

-- one level of a statement
abbrev layer : Stmt-F Stmt → Flow
layer x = stmt_flow (map-Stmt Stmt Flow flow x)

-- at most one item stands first, and it is this one
abbrev pub IsLead : Item → List Item → Type 0
IsLead i [] = Unit {0}
IsLead i (k ∷ []) = k ≡ i
IsLead i (k ∷ m ∷ ks) = ⊥

-- from an item that stood first control goes on along a link, and else to the same item as before
abbrev pub GoesOn : (Item → Item → Type 0) → List Item → Item → Item → Type 0
GoesOn Linked [] i j = i ≡ j
GoesOn Linked (k ∷ ks) i j = Linked k j

-- an item that is done gives way to its own place for a save
abbrev pub IsBehind : Item → List Left → Type 0
IsBehind i ls = (ms : List Left) × (ls ≡ After i.id ∷ ms)

own_place : (k i : Item) (ls : List Left) → k ∷ [] ≡ i ∷ [] → IsBehind i (After k.id ∷ ls)
own_place k i ls is = (ls, cc)

stmt_place : (x : Stmt-F Stmt) (b : Bool) (ls : List Left) (i : Item) → opening_item x ≡ i ∷ [] → IsBehind i (past_stmt x b ls)
stmt_place (Stmt-F.Item k) b ls i is = own_place k i _ is
stmt_place (Stmt-F.If k one other) true ls i is = own_place k i _ is
stmt_place (Stmt-F.If k one other) false ls i is = own_place k i _ is
stmt_place _ b ls i is = cc

pub first_place : (ls : List Left) (b : Bool) (i : Item) → first_head ls ≡ i ∷ [] → IsBehind i (past_first ls b)
first_place (Begin k ∷ ls) b i is = own_place k i _ is
first_place (Run s ∷ ls) b i is = stmt_place (out-Stmt s) b ls i is
first_place (Loop k body step ∷ ls) true i is = own_place k i _ is
first_place (Loop k body step ∷ ls) false i is = own_place k i _ is
first_place [] b i is = cc
first_place _ b i is = cc

-- where control goes on, by what is left and the item behind it
module _ (z : Item) where
  abbrev pub ways : List Left → Ways
  ways [] = record { next = z; leave = z; again = z }
  ways (Enter f ∷ ls) = ways ls
  ways (After i ∷ ls) = ways ls
  ways (Begin i ∷ ls) = to_next (ways ls) i
  ways (Run s ∷ ls) = to_next (ways ls) ((flow s).first (ways ls))
  ways (Loop c body step ∷ ls) = to_next (ways ls) c
  ways (Next ∷ ls) = record { next = (ways ls).next; leave = (ways ls).leave; again = (ways ls).next }
  ways (Leave ∷ ls) = record { next = (ways ls).next; leave = (ways ls).next; again = (ways ls).again }

  -- `break` and `continue` go to what stands behind the next `Leave` and `Next`
  leave_way : (ls : List Left) → (ways ls).leave ≡ (ways (past_leave ls)).next
  leave_way [] = refl
  leave_way (Leave ∷ ls) = refl
  leave_way (Next ∷ ls) = leave_way ls
  leave_way (Enter f ∷ ls) = leave_way ls
  leave_way (After i ∷ ls) = leave_way ls
  leave_way (Begin i ∷ ls) = leave_way ls
  leave_way (Run s ∷ ls) = leave_way ls
  leave_way (Loop c body step ∷ ls) = leave_way ls

  again_way : (ls : List Left) → (ways ls).again ≡ (ways (past_next ls)).next
  again_way [] = refl
  again_way (Next ∷ ls) = refl
  again_way (Leave ∷ ls) = again_way ls
  again_way (Enter f ∷ ls) = again_way ls
  again_way (After i ∷ ls) = again_way ls
  again_way (Begin i ∷ ls) = again_way ls
  again_way (Run s ∷ ls) = again_way ls
  again_way (Loop c body step ∷ ls) = again_way ls

  -- statements one after another, a turn of a loop, and the head of a `for`
  pub runs_way : (ss : List Stmt) (ls : List Left) → ways (map Run ss ++ ls) ≡ to_next (ways ls) (block_first (map flow ss) (ways ls))
  runs_way [] ls = refl
  runs_way (s ∷ ss) ls = ap (λ (w : Ways). to_next w ((flow s).first w)) (runs_way ss ls)

  turn_way : (c : Item) (body : Stmt) (step : Option Item) (ls : List Left) → ways (Next ∷ begins step ++ Loop c body step ∷ ls) ≡ turn c step (ways ls)
  turn_way c body None ls = refl
  turn_way c body (Some i) ls = refl

  begins_way : (i : Option Item) (c : Item) (body : Stmt) (step : Option Item) (ls : List Left) → or_cond i c ≡ (ways (begins i ++ Loop c body step ∷ ls)).next
  begins_way None c body step ls = refl
  begins_way (Some i) c body step ls = refl

  -- what stands first is where control goes
  stmt_lead : (x : Stmt-F Stmt) (w : Ways) → IsLead ((layer x).first w) (opening_item x)
  stmt_lead (Stmt-F.Item i) w = refl
  stmt_lead (Stmt-F.If c one other) w = refl
  stmt_lead (Stmt-F.Block ss) w = tt
  stmt_lead (Stmt-F.While c body) w = tt
  stmt_lead (Stmt-F.Do body c) w = tt
  stmt_lead (Stmt-F.For first c step body) w = tt
  stmt_lead Stmt-F.Break w = tt
  stmt_lead Stmt-F.Continue w = tt

  pub first_lead : (ls : List Left) → IsLead (ways ls).next (first_head ls)
  first_lead [] = tt
  first_lead (Enter f ∷ ls) = tt
  first_lead (After i ∷ ls) = tt
  first_lead (Begin i ∷ ls) = refl
  first_lead (Run s ∷ ls) = subst (λ (x : Flow). IsLead (x.first (ways ls)) (opening_item (out-Stmt s))) (sym (flow_out s (out-Stmt s) refl)) (stmt_lead (out-Stmt s) (ways ls))
  first_lead (Loop c body step ∷ ls) = refl
  first_lead (Next ∷ ls) = tt
  first_lead (Leave ∷ ls) = tt

  -- by which items are linked, and which item a function begins with
  module _ (Linked : Item → Item → Type 0) (Opens : FunId → Item → Type 0) where
    abbrev pub Each : List (Item × Item) → Type 0
    Each ks = (i j : Item) → Contains ks (i, j) → Linked i j

    one_of : (i j : Item) (ks : List (Item × Item)) → Each ((i, j) ∷ ks) → Linked i j
    one_of i j ks each = each i j (at_head (i, j) ks)

    rest_of : (k : Item × Item) (ks : List (Item × Item)) → Each (k ∷ ks) → Each ks
    rest_of k ks each = λ i j c. each i j (at_tail k ks (i, j) c)

    left_of : (ks ms : List (Item × Item)) → Each (ks ++ ms) → Each ks
    left_of ks ms each = λ i j c. each i j (Contains-append_left ks ms (i, j) c)

    right_of : (ks ms : List (Item × Item)) → Each (ks ++ ms) → Each ms
    right_of ks ms each = λ i j c. each i j (Contains-append_right ks ms (i, j) c)

    pub none_of : Each []
    none_of i j c = absurd (in_none (i, j) c)

    only_one : (i j : Item) → Linked i j → Each ((i, j) ∷ [])
    only_one i j h = λ a b c. subst (λ (k : Item × Item). Linked k.0 k.1) (in_one (i, j) (a, b) c) h

    act_linked : (a : Act) (i : Item) (w : Ways) → Linked i w.next → Each (after_act a i w)
    act_linked (act.Return e) i w h = none_of
    act_linked act.Close i w h = none_of
    act_linked _ i w h = only_one i w.next h

    linked_act : (a : Act) (i : Item) (w : Ways) → (Ends a → ⊥) → Each (after_act a i w) → Linked i w.next
    linked_act (act.Return e) i w more each = absurd (more tt)
    linked_act act.Close i w more each = absurd (more tt)
    linked_act _ i w more each = one_of i w.next [] each

    -- what is left has its links
    abbrev pub InFlow : List Left → Type 0
    InFlow [] = Unit {0}
    InFlow (Enter f ∷ ls) = Opens f (ways ls).next × InFlow ls
    InFlow (After i ∷ ls) = ((j : Item) × (j.id ≡ i) × Linked j (ways ls).next) × InFlow ls
    InFlow (Begin i ∷ ls) = Each (after_act i.act i (ways ls)) × InFlow ls
    InFlow (Run s ∷ ls) = Each ((flow s).links (ways ls)) × InFlow ls
    InFlow (Loop c body step ∷ ls) =
        (Linked c ((flow body).first (turn c step (ways ls))) × Linked c (ways ls).next × Each (link_to step c) × Each ((flow body).links (turn c step (ways ls)))) × InFlow ls
    InFlow (Next ∷ ls) = InFlow ls
    InFlow (Leave ∷ ls) = InFlow ls

    flow_leave : (ls : List Left) → InFlow ls → InFlow (past_leave ls)
    flow_leave [] h = h
    flow_leave (Leave ∷ ls) h = h
    flow_leave (Next ∷ ls) h = flow_leave ls h
    flow_leave (Enter f ∷ ls) h = flow_leave ls h.1
    flow_leave (After i ∷ ls) h = flow_leave ls h.1
    flow_leave (Begin i ∷ ls) h = flow_leave ls h.1
    flow_leave (Run s ∷ ls) h = flow_leave ls h.1
    flow_leave (Loop c body step ∷ ls) h = flow_leave ls h.1

    flow_next : (ls : List Left) → InFlow ls → InFlow (past_next ls)
    flow_next [] h = h
    flow_next (Next ∷ ls) h = h
    flow_next (Leave ∷ ls) h = flow_next ls h
    flow_next (Enter f ∷ ls) h = flow_next ls h.1
    flow_next (After i ∷ ls) h = flow_next ls h.1
    flow_next (Begin i ∷ ls) h = flow_next ls h.1
    flow_next (Run s ∷ ls) h = flow_next ls h.1
    flow_next (Loop c body step ∷ ls) h = flow_next ls h.1

    pub flow_runs : (ss : List Stmt) (ls : List Left) → Each (block_links (map flow ss) (ways ls)) → InFlow ls → InFlow (map Run ss ++ ls)
    flow_runs [] ls each h = h
    flow_runs (s ∷ ss) ls each h =
        let w : Ways = to_next (ways ls) (block_first (map flow ss) (ways ls)) in
        let here : Each ((flow s).links w) = left_of ((flow s).links w) (block_links (map flow ss) (ways ls)) each in
        let more : Each (block_links (map flow ss) (ways ls)) = right_of ((flow s).links w) (block_links (map flow ss) (ways ls)) each in
        (subst (λ v. Each ((flow s).links v)) (sym (runs_way ss ls)) here, flow_runs ss ls more h)

    flow_begins : (i : Option Item) (c : Item) (body : Stmt) (step : Option Item) (ls : List Left) → Each (link_to i c) → InFlow (Loop c body step ∷ ls) → InFlow (begins i ++ Loop c body step ∷ ls)
    flow_begins None c body step ls each h = h
    flow_begins (Some i) c body step ls each h = (act_linked i.act i (ways (Loop c body step ∷ ls)) (one_of i c [] each), h)

    abbrev pub Onward : List Item → Item → List Left → Type 0
    Onward heads i ls = InFlow ls × GoesOn Linked heads i (ways ls).next

    -- a loop with its links, where its end is marked
    flow_loop : (c : Item) (body : Stmt) (step : Option Item) (ls : List Left)
        → Linked c ((flow body).first (in_loop (ways ls) (or_cond step c))) → Linked c (ways ls).next → Each (link_to step c) → Each ((flow body).links (in_loop (ways ls) (or_cond step c))) → InFlow ls
        → InFlow (Loop c body step ∷ Leave ∷ ls)
    flow_loop c body step ls start end back inner h = ((start, end, back, inner), h)

    -- from a condition to a branch
    to_branch : (c : Item) (s : Stmt) (ls : List Left) → Linked c ((flow s).first (ways ls)) → Each ((flow s).links (ways ls)) → InFlow ls → Onward (c ∷ []) c (After c.id ∷ Run s ∷ ls)
    to_branch c s ls first inner h = (((c, refl, first), (inner, h)), first)

    past_branch : (c : Item) (ls : List Left) → Linked c (ways ls).next → InFlow ls → Onward (c ∷ []) c (After c.id ∷ ls)
    past_branch c ls first h = (((c, refl, first), h), first)

    stmt_onward : (x : Stmt-F Stmt) (b : Bool) (ls : List Left) → Each ((layer x).links (ways ls)) → InFlow ls → (StmtEnds x → ⊥) → Onward (opening_item x) ((layer x).first (ways ls)) (past_stmt x b ls)
    stmt_onward (Stmt-F.Item i) b ls each h more = past_branch i ls (linked_act i.act i (ways ls) more each) h
    stmt_onward (Stmt-F.Block ss) b ls each h more = (flow_runs ss ls each h, sym (ap (λ (w : Ways). w.next) (runs_way ss ls)))
    stmt_onward (Stmt-F.If c one None) true ls each h more =
        let w : Ways = ways ls in
        let inner : List (Item × Item) = (flow one).links w in
        to_branch c one ls (one_of c ((flow one).first w) ((c, w.next) ∷ (inner ++ [])) each) (left_of inner [] (rest_of (c, w.next) (inner ++ []) (rest_of (c, (flow one).first w) ((c, w.next) ∷ (inner ++ [])) each))) h
    stmt_onward (Stmt-F.If c one None) false ls each h more =
        let w : Ways = ways ls in
        let inner : List (Item × Item) = (flow one).links w in
        past_branch c ls (one_of c w.next (inner ++ []) (rest_of (c, (flow one).first w) ((c, w.next) ∷ (inner ++ [])) each)) h
    stmt_onward (Stmt-F.If c one (Some other)) true ls each h more =
        let w : Ways = ways ls in
        let inner : List (Item × Item) = (flow one).links w ++ (flow other).links w in
        to_branch c one ls (one_of c ((flow one).first w) ((c, (flow other).first w) ∷ inner) each)
        (left_of ((flow one).links w) ((flow other).links w) (rest_of (c, (flow other).first w) inner (rest_of (c, (flow one).first w) ((c, (flow other).first w) ∷ inner) each))) h
    stmt_onward (Stmt-F.If c one (Some other)) false ls each h more =
        let w : Ways = ways ls in
        let inner : List (Item × Item) = (flow one).links w ++ (flow other).links w in
        let behind : Each ((c, (flow other).first w) ∷ inner) = rest_of (c, (flow one).first w) ((c, (flow other).first w) ∷ inner) each in
        to_branch c other ls (one_of c ((flow other).first w) inner behind) (right_of ((flow one).links w) ((flow other).links w) (rest_of (c, (flow other).first w) inner behind)) h
    stmt_onward (Stmt-F.While c body) b ls each h more =
        let w : Ways = ways ls in
        let inner : List (Item × Item) = (flow body).links (in_loop w c) in
        let behind : Each ((c, w.next) ∷ inner) = rest_of (c, (flow body).first (in_loop w c)) ((c, w.next) ∷ inner) each in
        (flow_loop c body None ls (one_of c ((flow body).first (in_loop w c)) ((c, w.next) ∷ inner) each) (one_of c w.next inner behind) none_of (rest_of (c, w.next) inner behind) h, refl)
    stmt_onward (Stmt-F.Do body c) b ls each h more =
        let w : Ways = ways ls in
        let inner : List (Item × Item) = (flow body).links (in_loop w c) in
        let behind : Each ((c, w.next) ∷ inner) = rest_of (c, (flow body).first (in_loop w c)) ((c, w.next) ∷ inner) each in
        let body_links : Each inner = rest_of (c, w.next) inner behind in
        ((body_links, flow_loop c body None ls (one_of c ((flow body).first (in_loop w c)) ((c, w.next) ∷ inner) each) (one_of c w.next inner behind) none_of body_links h), refl)
    stmt_onward (Stmt-F.For first c step body) b ls each h more =
        let w : Ways = ways ls in
        let v : Ways = in_loop w (or_cond step c) in
        let inner : List (Item × Item) = link_to step c ++ (flow body).links v in
        let all : List (Item × Item) = link_to first c ++ inner in
        let behind : Each ((c, w.next) ∷ all) = rest_of (c, (flow body).first v) ((c, w.next) ∷ all) each in
        let heads : Each all = rest_of (c, w.next) all behind in
        let steps : Each inner = right_of (link_to first c) inner heads in
        let loop : InFlow (Loop c body step ∷ Leave ∷ ls) =
        flow_loop c body step ls (one_of c ((flow body).first v) ((c, w.next) ∷ all) each) (one_of c w.next all behind) (left_of (link_to step c) ((flow body).links v) steps) (right_of (link_to step c) ((flow body).links v) steps) h in
        (flow_begins first c body step (Leave ∷ ls) (left_of (link_to first c) inner heads) loop, begins_way first c body step (Leave ∷ ls))
    stmt_onward Stmt-F.Break b ls each h more = (flow_leave ls h, leave_way ls)
    stmt_onward Stmt-F.Continue b ls each h more = (flow_next ls h, again_way ls)

    run_onward : (s : Stmt) (b : Bool) (ls : List Left) → InFlow (Run s ∷ ls) → (StmtEnds (out-Stmt s) → ⊥) → Onward (opening_item (out-Stmt s)) ((flow s).first (ways ls)) (past_stmt (out-Stmt s) b ls)
    run_onward s b ls h more =
        let is : flow s ≡ layer (out-Stmt s) = flow_out s (out-Stmt s) refl in
        let each : Each ((layer (out-Stmt s)).links (ways ls)) = subst (λ (x : Flow). Each (x.links (ways ls))) is h.0 in
        subst (λ (x : Flow). Onward (opening_item (out-Stmt s)) (x.first (ways ls)) (past_stmt (out-Stmt s) b ls)) (sym is) (stmt_onward (out-Stmt s) b ls each h.1 more)

    loop_onward : (c : Item) (body : Stmt) (step : Option Item) (b : Bool) (ls : List Left) → InFlow (Loop c body step ∷ ls) → Onward (c ∷ []) c (past (Loop c body step) b ls)
    loop_onward c body step true ls h =
        let at : ways (Next ∷ begins step ++ Loop c body step ∷ ls) ≡ turn c step (ways ls) = turn_way c body step ls in
        let again : InFlow (begins step ++ Loop c body step ∷ ls) = flow_begins step c body step ls h.0.2 h in
        to_branch c body (Next ∷ begins step ++ Loop c body step ∷ ls) (subst (λ v. Linked c ((flow body).first v)) (sym at) h.0.0) (subst (λ v. Each ((flow body).links v)) (sym at) h.0.3) again
    loop_onward c body step false ls h = past_branch c ls h.0.1 h.1

    -- what is done gives way to what has its links, if it doesn't end the function
    pub first_onward : (ls : List Left) (b : Bool) → InFlow ls → (EndsNow ls → ⊥) → Onward (first_head ls) (ways ls).next (past_first ls b)
    first_onward [] b h more = (tt, refl)
    first_onward (Enter f ∷ ls) b h more = (h.1, refl)
    first_onward (After i ∷ ls) b h more = (h.1, refl)
    first_onward (Begin i ∷ ls) b h more = past_branch i ls (linked_act i.act i (ways ls) more h.0) h.1
    first_onward (Run s ∷ ls) b h more = run_onward s b ls h more
    first_onward (Loop c body step ∷ ls) b h more = loop_onward c body step b ls h
    first_onward (Next ∷ ls) b h more = (h, refl)
    first_onward (Leave ∷ ls) b h more = (h, refl)
