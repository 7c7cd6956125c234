-- What the words of a command mean: its names, its flag, and options with values.
use Rattle.std.specs.Prelude.{◌≡◌, ◌≢◌, ◌≤◌, ◌==◌, ◌⊎◌, ◌+◌, ℕ, Bool, false, cond, List, [], ◌∷◌, ◌++◌, map, length, All, Option, Some, None, codes}
use Rattle.std.specs.List.{slice_split}
use Rattle.std.specs.Str.{bytes_eq}
use Rattle.std.specs.Fmt.{decimal}
use Rattle.ca_commands.specs.declared.key.Key.{Key}
use Rattle.ca_commands.specs.declared.key.Key.TheVariants as key

-- ---- words and pieces

-- an option that has a value, as it is spelled
abbrev pub spelling : Key → List ℕ
spelling key.Limit = codes "--limit"
spelling key.Depth = codes "--depth"
spelling key.Only = codes "--only"
spelling key.Events = codes "--events"
spelling key.Patience = codes "--patience"
spelling key.Schedule = codes "--schedule"
spelling key.Seed = codes "--seed"

-- what one word says, or two of an option and its value
pub data Piece : Type 0 where
  Name : (name : List ℕ) → Piece
  Plain : Piece
  Valued : (k : Key) (text : List ℕ) → Piece

-- a word that doesn't begin with `-`
abbrev pub IsBare : List ℕ → Type 0
IsBare [] = Unit {0}
IsBare (c ∷ cs) = c ≢ 45

-- the words say these things one after another: an option stands as `--name value` or as `--name=value`, a flag as `--name`; no other word begins with `-`.
-- Behind `--` all words are names. No name is `-`
pub data Spell : List Piece → List (List ℕ) → Type 0 where
  ends : Spell [] []
  name : {n : List ℕ} {ps : List Piece} {ws : List (List ℕ)} → IsBare n → Spell ps ws → Spell (Name n ∷ ps) (n ∷ ws)
  plain : {ps : List Piece} {ws : List (List ℕ)} → Spell ps ws → Spell (Plain ∷ ps) (codes "--plain" ∷ ws)
  apart : {k : Key} {v : List ℕ} {ps : List Piece} {ws : List (List ℕ)} → Spell ps ws → Spell (Valued k v ∷ ps) (spelling k ∷ v ∷ ws)
  joined : {k : Key} {v : List ℕ} {ps : List Piece} {ws : List (List ℕ)} → Spell ps ws → Spell (Valued k v ∷ ps) ((spelling k ++ (codes "=" ++ v)) ∷ ws)
  names : {ns : List (List ℕ)} → All (λ n. n ≢ codes "-") ns → Spell (map Name ns) (codes "--" ∷ ns)

-- the names that stand there
abbrev pub names_of : List Piece → List (List ℕ)
names_of [] = []
names_of (Name n ∷ ps) = n ∷ names_of ps
names_of (Plain ∷ ps) = names_of ps
names_of (Valued k v ∷ ps) = names_of ps

-- how often `--plain` stands there
abbrev pub plains_of : List Piece → ℕ
plains_of [] = 0
plains_of (Name n ∷ ps) = plains_of ps
plains_of (Plain ∷ ps) = plains_of ps + 1
plains_of (Valued k v ∷ ps) = plains_of ps

-- the values of the option j that stand there
abbrev pub values_of : Key → List Piece → List (List ℕ)
values_of j [] = []
values_of j (Name n ∷ ps) = values_of j ps
values_of j (Plain ∷ ps) = values_of j ps
values_of j (Valued k v ∷ ps) = cond (bytes_eq (spelling k) (spelling j)) (v ∷ values_of j ps) (values_of j ps)

-- ---- values

-- a number in its range: `0`, or decimal digits of which the first isn't 0
pub record IsNumber (least most : ℕ) (text : List ℕ) (n : ℕ) : Type 0 where
  pub spelled : text ≡ decimal n
  pub above : least ≤ n
  pub below : n ≤ most

abbrev pub IsLimit : List ℕ → ℕ → Type 0
IsLimit = IsNumber 0 10000

abbrev pub IsDepth : List ℕ → ℕ → Type 0
IsDepth = IsNumber 0 8

abbrev pub IsEvents : List ℕ → ℕ → Type 0
IsEvents = IsNumber 1 2000000

abbrev pub IsPatience : List ℕ → ℕ → Type 0
IsPatience = IsNumber 0 1000

abbrev pub IsSeed : List ℕ → ℕ → Type 0
IsSeed = IsNumber 0 4294967295

-- numbers up to one, with commas between them and nothing else, and at most so many
pub record IsNumbers (count most : ℕ) (text : List ℕ) (ns : List ℕ) : Type 0 where
  pub parts : slice_split (λ c. c == 44) text ≡ map decimal ns
  pub small : All (λ n. n ≤ most) ns
  pub few : length ns ≤ count

-- up to 100,000 numbers of threads
abbrev pub IsSchedule : List ℕ → List ℕ → Type 0
IsSchedule = IsNumbers 100000 63

-- up to 256 numbers of sites
abbrev pub IsOnly : List ℕ → List ℕ → Type 0
IsOnly = IsNumbers 256 4294967295

-- what stands there at most once, as it is read
abbrev pub IsRead : {A : Type 0} → (List ℕ → A → Type 0) → List (List ℕ) → Option A → Type 0
IsRead P [] None = Unit {0}
IsRead P (text ∷ []) (Some x) = P text x
IsRead P _ _ = ⊥

-- ---- commands

-- how a source is hardened, where that is said: how often an activation may retry at a site, how many calls are gone up, and the sites that are taken
pub record PlanOptions : Type 0 where
  pub limit : Option ℕ
  pub depth : Option ℕ
  pub only : Option (List ℕ)

pub record SaysPlan (ps : List Piece) (o : PlanOptions) : Type 0 where
  pub limit : IsRead IsLimit (values_of key.Limit ps) o.limit
  pub depth : IsRead IsDepth (values_of key.Depth ps) o.depth
  pub only : IsRead IsOnly (values_of key.Only ps) o.only

-- nothing is said of it
abbrev pub unsaid : PlanOptions
unsaid = record { limit = None; depth = None; only = None }

-- `--plain` stands there at most once, and then nothing is said of the plan
pub record SaysHardening (ps : List Piece) (plain : Bool) (o : PlanOptions) : Type 0 where
  pub flag : plains_of ps ≡ cond plain 1 0
  pub plan : SaysPlan ps o
  pub excluded : (plain ≡ false) ⊎ (o ≡ unsaid)

-- how the runner goes, where that is said: the most entries, after how many entries of others a thread has waited out, and the schedule
pub record RunnerOptions : Type 0 where
  pub events : Option ℕ
  pub patience : Option ℕ
  pub schedule : Option (List ℕ)
  pub seed : Option ℕ

pub record SaysRunner (ps : List Piece) (o : RunnerOptions) : Type 0 where
  pub limit : IsRead IsEvents (values_of key.Events ps) o.events
  pub waited : IsRead IsPatience (values_of key.Patience ps) o.patience
  pub listed : IsRead IsSchedule (values_of key.Schedule ps) o.schedule
  pub seeded : IsRead IsSeed (values_of key.Seed ps) o.seed
  pub not_both : (o.schedule ≡ None) ⊎ (o.seed ≡ None)

-- what `run` is asked to do
pub record RunOptions : Type 0 where
  pub name : List ℕ
  pub plain : Bool
  pub plan : PlanOptions
  pub runner : RunnerOptions

pub record SaysRun (ps : List Piece) (o : RunOptions) : Type 0 where
  pub one_name : names_of ps ≡ o.name ∷ []
  pub hardening : SaysHardening ps o.plain o.plan
  pub runner : SaysRunner ps o.runner

-- none of these options stands there
abbrev pub AreAbsent : List Key → List Piece → Type 0
AreAbsent ks ps = All (λ k. values_of k ps ≡ []) ks

abbrev pub runner_keys : List Key
runner_keys = key.Events ∷ key.Patience ∷ key.Schedule ∷ key.Seed ∷ []

-- what `check` is asked to do
pub record CheckOptions : Type 0 where
  pub name : List ℕ
  pub trace : List ℕ
  pub plain : Bool
  pub plan : PlanOptions

pub record SaysCheck (ps : List Piece) (o : CheckOptions) : Type 0 where
  pub two_names : names_of ps ≡ o.name ∷ o.trace ∷ []
  pub hardening : SaysHardening ps o.plain o.plan
  pub absent : AreAbsent runner_keys ps

-- what `sites` is asked to do
pub record SitesOptions : Type 0 where
  pub name : List ℕ
  pub plan : PlanOptions

pub record SaysSites (ps : List Piece) (o : SitesOptions) : Type 0 where
  pub one_name : names_of ps ≡ o.name ∷ []
  pub no_flag : plains_of ps ≡ 0
  pub plan : SaysPlan ps o.plan
  pub absent : AreAbsent (key.Limit ∷ runner_keys) ps

-- what `project` and `lift` are asked to do
pub record TraceOptions : Type 0 where
  pub name : List ℕ
  pub trace : List ℕ
  pub plan : PlanOptions

pub record SaysTrace (ps : List Piece) (o : TraceOptions) : Type 0 where
  pub two_names : names_of ps ≡ o.name ∷ o.trace ∷ []
  pub no_flag : plains_of ps ≡ 0
  pub plan : SaysPlan ps o.plan
  pub absent : AreAbsent runner_keys ps

-- a command with what it is asked to do
pub data Command : Type 0 where
  Run : (o : RunOptions) → Command
  Check : (o : CheckOptions) → Command
  Sites : (o : SitesOptions) → Command
  Project : (o : TraceOptions) → Command
  Lift : (o : TraceOptions) → Command

abbrev pub word_of : Command → List ℕ
word_of (Run o) = codes "run"
word_of (Check o) = codes "check"
word_of (Sites o) = codes "sites"
word_of (Project o) = codes "project"
word_of (Lift o) = codes "lift"

abbrev pub Says : List Piece → Command → Type 0
Says ps (Run o) = SaysRun ps o
Says ps (Check o) = SaysCheck ps o
Says ps (Sites o) = SaysSites ps o
Says ps (Project o) = SaysTrace ps o
Says ps (Lift o) = SaysTrace ps o

-- the words are this command
pub record Means (words : List (List ℕ)) (c : Command) : Type 0 where
  pub behind : List (List ℕ)
  pub pieces : List Piece
  pub command : words ≡ word_of c ∷ behind
  pub spelled : Spell pieces behind
  pub says : Says pieces c
