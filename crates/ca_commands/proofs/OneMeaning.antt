-- Pieces say one thing, since each value is spelled in one way; and words are pieces in one way.
use Rattle.std.proofs.Common.{◌≡◌, ◌≤◌, ◌<◌, ◌^◌, ℕ, Bool, true, false, cond, List, [], ◌∷◌, map, Option, Some, None, refl, sym, ap, ◌∙◌, subst, arith, decimal}
use Rattle.std.specs.Prelude.{All}
use Rattle.std.proofs.lemmas.Fmt.{decimal_injective}
use Rattle.std.proofs.lemmas.List.Elements.{All-head, All-tail}
use Rattle.ca_commands.specs.declared.key.Key.TheVariants as key
use Rattle.ca_commands.specs.Words.{Piece, names_of, plains_of, values_of, IsNumber, IsNumbers, IsLimit, IsDepth, IsOnly, IsEvents, IsPatience, IsSchedule, IsSeed, IsRead, PlanOptions, SaysPlan, RunnerOptions, SaysRunner, RunOptions, SaysRun, CheckOptions, SaysCheck, SitesOptions, SaysSites, TraceOptions, SaysTrace, Command, Run, Check, Sites, Project, Lift, word_of, Says, Means, Spell}
use Rattle.ca_commands.proofs.Spelling.{one_spelling}

one_number : (least most : ℕ) → most < 2 ^ 64 → (text : List ℕ) (m n : ℕ) → IsNumber least most text m → IsNumber least most text n → m ≡ n
one_number least most fits text m n a b =
    let low = a.below in
    let high = b.below in
    decimal_injective m n (omega (arith, fits, low)) (omega (arith, fits, high)) (sym a.spelled ∙ b.spelled)

one_list : (most : ℕ) → most < 2 ^ 64 → (ts us : List ℕ) → map decimal ts ≡ map decimal us → All (λ n. n ≤ most) ts → All (λ n. n ≤ most) us → ts ≡ us
one_list most fits [] [] is small also = refl
one_list most fits [] (u ∷ us) is small also = absurd cc
one_list most fits (t ∷ ts) [] is small also = absurd cc
one_list most fits (t ∷ ts) (u ∷ us) is small also =
    let low : t ≤ most = All-head (λ n. n ≤ most) t ts small in
    let high : u ≤ most = All-head (λ n. n ≤ most) u us also in
    let first : decimal t ≡ decimal u = cc in
    let rest : map decimal ts ≡ map decimal us = cc in
    let head : t ≡ u = decimal_injective t u (omega (arith, fits, low)) (omega (arith, fits, high)) first in
    let tail : ts ≡ us = one_list most fits ts us rest (All-tail (λ n. n ≤ most) t ts small) (All-tail (λ n. n ≤ most) u us also) in
    ap (λ x. x ∷ ts) head ∙ ap (λ xs. u ∷ xs) tail

one_numbers : (count most : ℕ) → most < 2 ^ 64 → (text ts us : List ℕ) → IsNumbers count most text ts → IsNumbers count most text us → ts ≡ us
one_numbers count most fits text ts us a b = one_list most fits ts us (sym a.parts ∙ b.parts) a.small b.small

one_read : {A : Type 0} (P : List ℕ → A → Type 0) → ((text : List ℕ) (x y : A) → P text x → P text y → x ≡ y) → (ts : List (List ℕ)) (x y : Option A) → IsRead P ts x → IsRead P ts y → x ≡ y
one_read P one [] None None a b = refl
one_read P one [] None (Some y) a b = absurd b
one_read P one [] (Some x) y a b = absurd a
one_read P one (text ∷ []) None y a b = absurd a
one_read P one (text ∷ []) (Some x) None a b = absurd b
one_read P one (text ∷ []) (Some x) (Some y) a b = ap Some (one text x y a b)
one_read P one (text ∷ other ∷ ts) None y a b = absurd a
one_read P one (text ∷ other ∷ ts) (Some x) y a b = absurd a

plan_from : (o p : PlanOptions) → o.limit ≡ p.limit → o.depth ≡ p.depth → o.only ≡ p.only → o ≡ p
plan_from o p limit depth only = λ i. record { limit = limit i; depth = depth i; only = only i }

pub one_plan : (ps : List Piece) (o p : PlanOptions) → SaysPlan ps o → SaysPlan ps p → o ≡ p
one_plan ps o p a b =
    plan_from o p
    (one_read IsLimit (one_number 0 10000 (omega arith)) (values_of key.Limit ps) o.limit p.limit a.limit b.limit)
    (one_read IsDepth (one_number 0 8 (omega arith)) (values_of key.Depth ps) o.depth p.depth a.depth b.depth)
    (one_read IsOnly (one_numbers 256 4294967295 (omega arith)) (values_of key.Only ps) o.only p.only a.only b.only)

runner_from : (o p : RunnerOptions) → o.events ≡ p.events → o.patience ≡ p.patience → o.schedule ≡ p.schedule → o.seed ≡ p.seed → o ≡ p
runner_from o p events patience schedule seed = λ i. record { events = events i; patience = patience i; schedule = schedule i; seed = seed i }

pub one_schedule : (ps : List Piece) (o p : Option (List ℕ)) → IsRead IsSchedule (values_of key.Schedule ps) o → IsRead IsSchedule (values_of key.Schedule ps) p → o ≡ p
one_schedule ps o p a b = one_read IsSchedule (one_numbers 100000 63 (omega arith)) (values_of key.Schedule ps) o p a b

pub one_seed : (ps : List Piece) (o p : Option ℕ) → IsRead IsSeed (values_of key.Seed ps) o → IsRead IsSeed (values_of key.Seed ps) p → o ≡ p
one_seed ps o p a b = one_read IsSeed (one_number 0 4294967295 (omega arith)) (values_of key.Seed ps) o p a b

one_runner : (ps : List Piece) (o p : RunnerOptions) → SaysRunner ps o → SaysRunner ps p → o ≡ p
one_runner ps o p a b =
    runner_from o p
    (one_read IsEvents (one_number 1 2000000 (omega arith)) (values_of key.Events ps) o.events p.events a.limit b.limit)
    (one_read IsPatience (one_number 0 1000 (omega arith)) (values_of key.Patience ps) o.patience p.patience a.waited b.waited)
    (one_schedule ps o.schedule p.schedule a.listed b.listed)
    (one_seed ps o.seed p.seed a.seeded b.seeded)

pub one_flag : (n : ℕ) (a b : Bool) → n ≡ cond a 1 0 → n ≡ cond b 1 0 → a ≡ b
one_flag n true true is same = refl
one_flag n true false is same = absurd (omega (arith, is, same))
one_flag n false true is same = absurd (omega (arith, is, same))
one_flag n false false is same = refl

one_name : (ns : List (List ℕ)) (a b : List ℕ) → ns ≡ a ∷ [] → ns ≡ b ∷ [] → a ≡ b
one_name ns a b is same = let both : a ∷ [] ≡ b ∷ [] = sym is ∙ same in cc

first_name : (ns : List (List ℕ)) (a b c d : List ℕ) → ns ≡ a ∷ b ∷ [] → ns ≡ c ∷ d ∷ [] → a ≡ c
first_name ns a b c d is same = let both : a ∷ b ∷ [] ≡ c ∷ d ∷ [] = sym is ∙ same in cc

second_name : (ns : List (List ℕ)) (a b c d : List ℕ) → ns ≡ a ∷ b ∷ [] → ns ≡ c ∷ d ∷ [] → b ≡ d
second_name ns a b c d is same = let both : a ∷ b ∷ [] ≡ c ∷ d ∷ [] = sym is ∙ same in cc

run_from : (o p : RunOptions) → o.name ≡ p.name → o.plain ≡ p.plain → o.plan ≡ p.plan → o.runner ≡ p.runner → o ≡ p
run_from o p name plain plan runner = λ i. record { name = name i; plain = plain i; plan = plan i; runner = runner i }

one_run : (ps : List Piece) (o p : RunOptions) → SaysRun ps o → SaysRun ps p → o ≡ p
one_run ps o p a b =
    run_from o p (one_name (names_of ps) o.name p.name a.one_name b.one_name) (one_flag (plains_of ps) o.plain p.plain a.hardening.flag b.hardening.flag)
    (one_plan ps o.plan p.plan a.hardening.plan b.hardening.plan) (one_runner ps o.runner p.runner a.runner b.runner)

check_from : (o p : CheckOptions) → o.name ≡ p.name → o.trace ≡ p.trace → o.plain ≡ p.plain → o.plan ≡ p.plan → o ≡ p
check_from o p name trace plain plan = λ i. record { name = name i; trace = trace i; plain = plain i; plan = plan i }

one_check : (ps : List Piece) (o p : CheckOptions) → SaysCheck ps o → SaysCheck ps p → o ≡ p
one_check ps o p a b =
    check_from o p (first_name (names_of ps) o.name o.trace p.name p.trace a.two_names b.two_names) (second_name (names_of ps) o.name o.trace p.name p.trace a.two_names b.two_names)
    (one_flag (plains_of ps) o.plain p.plain a.hardening.flag b.hardening.flag) (one_plan ps o.plan p.plan a.hardening.plan b.hardening.plan)

sites_from : (o p : SitesOptions) → o.name ≡ p.name → o.plan ≡ p.plan → o ≡ p
sites_from o p name plan = λ i. record { name = name i; plan = plan i }

one_sites : (ps : List Piece) (o p : SitesOptions) → SaysSites ps o → SaysSites ps p → o ≡ p
one_sites ps o p a b = sites_from o p (one_name (names_of ps) o.name p.name a.one_name b.one_name) (one_plan ps o.plan p.plan a.plan b.plan)

trace_from : (o p : TraceOptions) → o.name ≡ p.name → o.trace ≡ p.trace → o.plan ≡ p.plan → o ≡ p
trace_from o p name trace plan = λ i. record { name = name i; trace = trace i; plan = plan i }

one_trace : (ps : List Piece) (o p : TraceOptions) → SaysTrace ps o → SaysTrace ps p → o ≡ p
one_trace ps o p a b =
    trace_from o p (first_name (names_of ps) o.name o.trace p.name p.trace a.two_names b.two_names) (second_name (names_of ps) o.name o.trace p.name p.trace a.two_names b.two_names) (one_plan ps o.plan p.plan a.plan b.plan)

-- commands with one word
one_command : (ps : List Piece) (c d : Command) → word_of c ≡ word_of d → Says ps c → Says ps d → c ≡ d
one_command ps (Run o) (Run p) word a b = ap (λ (x : RunOptions). Run x) (one_run ps o p a b)
one_command ps (Run o) (Check p) word a b = absurd cc
one_command ps (Run o) (Sites p) word a b = absurd cc
one_command ps (Run o) (Project p) word a b = absurd cc
one_command ps (Run o) (Lift p) word a b = absurd cc
one_command ps (Check o) (Run p) word a b = absurd cc
one_command ps (Check o) (Check p) word a b = ap (λ (x : CheckOptions). Check x) (one_check ps o p a b)
one_command ps (Check o) (Sites p) word a b = absurd cc
one_command ps (Check o) (Project p) word a b = absurd cc
one_command ps (Check o) (Lift p) word a b = absurd cc
one_command ps (Sites o) (Run p) word a b = absurd cc
one_command ps (Sites o) (Check p) word a b = absurd cc
one_command ps (Sites o) (Sites p) word a b = ap (λ (x : SitesOptions). Sites x) (one_sites ps o p a b)
one_command ps (Sites o) (Project p) word a b = absurd cc
one_command ps (Sites o) (Lift p) word a b = absurd cc
one_command ps (Project o) (Run p) word a b = absurd cc
one_command ps (Project o) (Check p) word a b = absurd cc
one_command ps (Project o) (Sites p) word a b = absurd cc
one_command ps (Project o) (Project p) word a b = ap (λ (x : TraceOptions). Project x) (one_trace ps o p a b)
one_command ps (Project o) (Lift p) word a b = absurd cc
one_command ps (Lift o) (Run p) word a b = absurd cc
one_command ps (Lift o) (Check p) word a b = absurd cc
one_command ps (Lift o) (Sites p) word a b = absurd cc
one_command ps (Lift o) (Project p) word a b = absurd cc
one_command ps (Lift o) (Lift p) word a b = ap (λ (x : TraceOptions). Lift x) (one_trace ps o p a b)

-- words that begin with one word and say two things have one list of pieces
pub same_pieces : (words behind : List (List ℕ)) (w : List ℕ) (ps : List Piece) → words ≡ w ∷ behind → Spell ps behind → (c : Command) (m : Means words c) → (word_of c ≡ w) × (m.pieces ≡ ps)
same_pieces words behind w ps is spelled c m =
    let both : word_of c ∷ m.behind ≡ w ∷ behind = sym m.command ∙ is in
    let word : word_of c ≡ w = cc in
    let rest : m.behind ≡ behind = cc in
    (word, one_spelling behind m.pieces ps (subst (Spell m.pieces) rest m.spelled) spelled)

pub one_meaning : (words : List (List ℕ)) (c d : Command) → Means words c → Means words d → c ≡ d
one_meaning words c d a b =
    let (word, same) = same_pieces words b.behind (word_of d) b.pieces b.command b.spelled c a in
    one_command b.pieces c d word (subst (λ ps. Says ps c) same a.says) b.says
