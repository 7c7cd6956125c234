-- A program in which nothing is wrong has the sites that its text shows.
use Rattle.std.proofs.Common.{◌≡◌, ℕ, zero, suc, ◌+◌, Bool, true, false, List, [], ◌∷◌, ◌++◌, map, length, Option, Some, None, refl, sym, ap, ◌∙◌, subst, append-nil, append_assoc}
use Rattle.std.specs.Prelude.{slice_get, nat_lt, if◌then◌else◌}
use Rattle.std.specs.Option.{is_some}
use Rattle.std.specs.List.{AllByRecursion}
use Rattle.std.proofs.lemmas.List.{map-append}
use Rattle.ca_tree.specs.declared.tree.Name.{Name}
use Rattle.ca_tree.specs.declared.tree.Parameter.{Parameter}
use Rattle.ca_tree.specs.declared.tree.ResultType.{ResultType}
use Rattle.ca_tree.specs.declared.tree.ResultType.TheVariants as result
use Rattle.ca_tree.specs.declared.tree.Body.{Body}
use Rattle.ca_tree.specs.declared.tree.Function.{Function}
use Rattle.ca_tree.specs.declared.tree.Globals.{Globals as GlobalsOf}
use Rattle.ca_tree.specs.declared.tree.Globals.TheVariants as globals
use Rattle.ca_tree.specs.declared.tree.Top.{Top}
use Rattle.ca_tree.specs.declared.tree.Top.TheVariants as top
use Rattle.ca_tree.specs.declared.tree.Program.{Program}
use Rattle.ca_tree.specs.Counts.{Totals}
use Rattle.ca_tree.specs.TreeWords.{Words}
use Rattle.ca_tree.specs.ProgramTrees.{IsBody, IsTop, AreTops, IsProgramOf}
use Rattle.ca_tree.specs.ProgramTrees as tree
use Rattle.ca_model.specs.declared.tree.Item.{Item}
use Rattle.ca_model.specs.declared.tree.Function.{Function as TypedFunction}
use Rattle.ca_model.specs.declared.types.ObjectType.{ObjectType}
use Rattle.ca_model.specs.declared.types.Meaning.{Meaning}
use Rattle.ca_model.specs.declared.types.Meaning.TheVariants as means
use Rattle.ca_model.specs.Codes.{Typed}
use Rattle.ca_model.specs.Accesses.{Access, At_site, Named_load, Named_store, Allocates, act_accesses, sites_after, sites_in, all_sites}
use Rattle.ca_model.specs.Sites.{items_in_all, items_of, all_items}
use Rattle.ca_model.specs.typing.Scopes.{Signature, FunctionOf, Scope, Context, find}
use Rattle.ca_model.specs.typing.Bodies.{Inside, Told, in_order}
use Rattle.ca_model.specs.typing.Faults.{unless}
use Rattle.ca_model.specs.typing.Locals.{with_locals, most_locals}
use Rattle.ca_model.specs.typing.Signatures.{result_type, result_faults, parameter_type, of_parameter_faults, parameter_faults, signature, function_faults, declared_too, declared_first, changed_at, with_declaration, with_signature}
use Rattle.ca_model.specs.typing.Functions.{begun, with_parameter, a_parameter, parameters_told, body_told, typed_function, functions_of, told_in, with_function}
use Rattle.ca_model.specs.typing.Known.{Known, with_each}
use Rattle.ca_model.specs.typing.Structs.{with_struct}
use Rattle.ca_model.specs.typing.Globals.{with_mutex, with_thread, with_variable, with_globals}
use Rattle.ca_model.specs.typing.Programs.{with_top, definitions, at_start, known}
use Rattle.ca_model.specs.typing.Typing.{IsTyping}
use Rattle.ca_model.proofs.Members.{in_none}
use Rattle.ca_model.proofs.MissingAnswers.{if_so}
use Rattle.ca_model.proofs.TypesThere.{type_there_over, parameter_there}
use Rattle.ca_model.proofs.EmptyFaults.{none_in}
use Rattle.ca_model.proofs.ExpressionsThere.{HasType}
use Rattle.ca_model.proofs.TypedFields.{field_typed}
use Rattle.ca_model.proofs.KnownSoFar.{Declared, Sound, Goes, each_keeps_faults}
use Rattle.ca_model.proofs.GlobalsKnown.{struct_goes, globals_go}
use Rattle.ca_model.proofs.SignaturesKnown.{declares}
use Rattle.ca_model.proofs.DeclarationsKnown.{clean, Belongs, function_goes, top_keeps}
use Rattle.ca_model.proofs.DefinitionsFound.{names, belong, globals_add_none}
use Rattle.ca_sites.specs.TextSites.{body_sites, tops_sites, text_sites}
use Rattle.ca_sites.specs.SiteLists.{kind_of, in_tree, in_text}
use Rattle.ca_sites.proofs.ActsShown.{AllThere, Signed, sites_among, shown, shown_both, both_same}
use Rattle.ca_sites.proofs.StatementsShown.{of_items, items_append, Here, here_declared, Well, Tells, nothing_tells, then_at, body_tells}

-- ---- signatures

signed_on : (fs gs : List FunctionOf) → Signed fs → Signed gs → Signed (fs ++ gs)
signed_on [] gs h i = i
signed_on (f ∷ fs) gs h i = (h.0, signed_on fs gs h.1 i)

too_there : (b : Bool) (g : Signature) (f : FunctionOf) → AllThere f.first.parameters → AllThere (declared_too b g f).first.parameters
too_there true g f h = h
too_there false g f h = h

changed_signed : (i : ℕ) (b : Bool) (g : Signature) (fs : List FunctionOf) → Signed fs → Signed (changed_at i (declared_too b g) fs)
changed_signed i b g [] h = tt
changed_signed zero b g (f ∷ fs) h = (too_there b g f h.0, h.1)
changed_signed (suc i) b g (f ∷ fs) h = (h.0, changed_signed i b g fs h.1)

first_there : (b : Bool) (g : Signature) → AllThere g.parameters → AllThere (declared_first b g).first.parameters
first_there true g h = h
first_there false g h = h

once_signed : (c : Context) (b : Bool) (g : Signature) → Signed c.functions → AllThere g.parameters → Signed (c.functions ++ declared_first b g ∷ [])
once_signed c b g h there = signed_on c.functions (declared_first b g ∷ []) h (first_there b g there, tt)

declaration_signed : (c : Context) (n : List ℕ) (b : Bool) (g : Signature) (o : Option Meaning) → Signed c.functions → AllThere g.parameters → Signed (with_declaration c n b g o).functions
declaration_signed c n b g None h there = once_signed c b g h there
declaration_signed c n b g (Some (means.Mutex m)) h there = once_signed c b g h there
declaration_signed c n b g (Some (means.Global i u)) h there = once_signed c b g h there
declaration_signed c n b g (Some (means.Array i u)) h there = once_signed c b g h there
declaration_signed c n b g (Some (means.Function i)) h there = changed_signed i b g c.functions h
declaration_signed c n b g (Some (means.Local x u)) h there = once_signed c b g h there

parameters_there : (s : Scope) (ps : List Parameter) → parameter_faults s ps ≡ [] → AllThere (map (parameter_type s) ps)
parameters_there s [] none = tt
parameters_there s (a ∷ ps) none = let parts = none_in (of_parameter_faults s a.of) (parameter_faults s ps) none in (parameter_there s s a.of refl parts.0, parameters_there s ps parts.1)

pub function_signed : (c : Context) (f : Function) → Signed c.functions → parameter_faults c.scope f.parameters ≡ [] → Signed (with_signature c f).functions
function_signed c f h none = declaration_signed c f.name.text (is_some f.body) (signature c.scope f) (find f.name.text c.scope.globals) h (parameters_there c.scope f.parameters none)

result_there : (s u : Scope) (r : ResultType) → s.structs ≡ u.structs → result_faults u r ≡ [] → is_some (result_type s r) ≡ true
result_there s u result.Void same none = refl
result_there s u result.Pointer same none = refl
result_there s u (result.Value t) same none = type_there_over s u t.base t.stars same none

each_same : {A : Type 0} (f : Known → A → Known) → ((k : Known) (x : A) → (f k x).context.functions ≡ k.context.functions) → (xs : List A) (k : Known) → (with_each f k xs).context.functions ≡ k.context.functions
each_same f same [] k = refl
each_same f same (x ∷ xs) k = each_same f same xs (f k x) ∙ same k x

globals_same : (k : Known) (a : GlobalsOf) → (with_globals k a).context.functions ≡ k.context.functions
globals_same k (globals.Mutexes ds) = each_same with_mutex (λ l d. refl) ds k
globals_same k (globals.Threads ds) = each_same with_thread (λ l d. refl) ds k
globals_same k (globals.Variables b ds) = each_same (with_variable b) (λ l d. refl) ds k

-- ---- functions

named_here : (c : Inside) (x : Option Name) (u : Option ObjectType) → Here c → is_some u ≡ true → Here (with_parameter c x u)
named_here c None u h typed = h
named_here c (Some x) u h typed = here_declared c x u h typed

structs_by : (b : Bool) (c : Inside) (ls : List (List ℕ × Meaning)) → (if b then with_locals c ls (c.count + 1) else c).context.scope.structs ≡ c.context.scope.structs
structs_by true c ls = refl
structs_by false c ls = refl

named_structs : (c : Inside) (x : Option Name) (u : Option ObjectType) → (with_parameter c x u).context.scope.structs ≡ c.context.scope.structs
named_structs c None u = refl
named_structs c (Some x) u = structs_by (nat_lt c.count most_locals) c _

parameters_tell : (u : Scope) (ps : List Parameter) (c : Inside) → Here c → c.context.scope.structs ≡ u.structs → parameter_faults u ps ≡ [] → Tells (in_order a_parameter ps c) []
parameters_tell u [] c h same none = nothing_tells c h
parameters_tell u (a ∷ ps) c h same none =
    let parts = none_in (of_parameter_faults u a.of) (parameter_faults u ps) none in
    then_at (a_parameter c a) (in_order a_parameter ps) [] [] (λ clean. record { behind = named_here c a.name (parameter_type c.context.scope a) h (parameter_there c.context.scope u a.of same parts.0); shows = refl })
    (λ w. parameters_tell u ps (a_parameter c a).behind w.behind (named_structs c a.name (parameter_type c.context.scope a) ∙ same) parts.1)

a_body_tells : {words : Words} {n m : Totals} {b : Option Body} → IsBody words n b m → (c : Inside) → Here c → Tells (body_told c b) (body_sites b)
a_body_tells tree.no_body c h = nothing_tells c h
a_body_tells {words = words} (tree.a_body few all room) c h = body_tells words all c h

typed_by_declared : (k : Known) (x : List ℕ) (w : Meaning) → Declared k x w → HasType w
typed_by_declared k x (means.Mutex m) h = tt
typed_by_declared k x (means.Global g u) h = h.1
typed_by_declared k x (means.Array g u) h = h.1
typed_by_declared k x (means.Function i) h = tt
typed_by_declared k x (means.Local y u) h = absurd h

begun_here : (all : List (List ℕ)) (l : Known) (r : Option ObjectType) → Sound all l → Signed l.context.functions → is_some r ≡ true → Here (begun l.context r)
begun_here all l r s signed gives = record {
  globals = λ x. if_so HasType (find x l.context.scope.globals) (λ w at. typed_by_declared l x w (s.names x w at));
  locals = λ x. tt;
  fields = λ i x. field_typed l.context.scope i x s.fields;
  signed = signed;
  gives = gives;
}

function_tells : {words : Words} {n m : Totals} (u : Scope) (c : Context) (f : Function) → IsBody words n f.body m → Here (begun c (result_type c.scope f.result)) → c.scope.structs ≡ u.structs → parameter_faults u f.parameters ≡ []
    → Tells (told_in c f) (body_sites f.body)
function_tells u c f is h same none =
    let start : Inside = begun c (result_type c.scope f.result) in
    then_at (parameters_told start f.parameters) (λ d. body_told d f.body) [] (body_sites f.body) (parameters_tell u f.parameters start h same none)
    (λ w. a_body_tells is (parameters_told start f.parameters).behind w.behind)

functions_show : (i parameters : ℕ) (x : Told) (b : Option Body) → Well x (body_sites b) → of_items (all_items (functions_of i parameters x b)) ≡ shown (body_sites b)
functions_show i parameters x None w = refl
functions_show i parameters x (Some b) w =
    let f = typed_function i parameters x b in
    ap of_items (append-nil (items_of f)) ∙ (items_append (items_in_all x.stmts) (f.close ∷ []) ∙ (append-nil (of_items (items_in_all x.stmts)) ∙ w.shows))

items_joined : (fs gs : List TypedFunction) → of_items (all_items (fs ++ gs)) ≡ of_items (all_items fs) ++ of_items (all_items gs)
items_joined [] gs = refl
items_joined (f ∷ fs) gs =
    items_append (items_of f) (all_items (fs ++ gs)) ∙ (ap (λ l. of_items (items_of f) ++ l) (items_joined fs gs)
    ∙ (sym (append_assoc (of_items (items_of f)) (of_items (all_items fs)) (of_items (all_items gs))) ∙ ap (λ l. l ++ of_items (all_items gs)) (sym (items_append (items_of f) (all_items fs)))))

no_result_fault : (k : Known) (f : Function) → (with_function k f).faults ≡ [] → result_faults k.context.scope f.result ≡ []
no_result_fault k f none =
    let all = none_in k.faults (function_faults k.context f ++ (told_in (with_signature k.context f) f).faults) none in
    let both = none_in (function_faults k.context f) (told_in (with_signature k.context f) f).faults all.1 in
    let four = none_in (result_faults k.context.scope f.result ++ parameter_faults k.context.scope f.parameters ++ unless _ _ ++ unless _ _) (unless _ _) both.0 in
    let three = none_in (result_faults k.context.scope f.result ++ parameter_faults k.context.scope f.parameters ++ unless _ _) (unless _ _) four.0 in
    let two = none_in (result_faults k.context.scope f.result ++ parameter_faults k.context.scope f.parameters) (unless _ _) three.0 in
    (none_in (result_faults k.context.scope f.result) (parameter_faults k.context.scope f.parameters) two.0).0

-- ---- programs

module _ (words : Words) (all : List (List ℕ)) where
  functions_shown : {n m : Totals} (xs : List Top) → AreTops words n xs m → AllByRecursion (Belongs all) xs → (k : Known) → Sound all k → Signed k.context.functions → (with_each with_top k xs).faults ≡ []
      → of_items (all_items (with_each with_top k xs).functions) ≡ of_items (all_items k.functions) ++ shown (tops_sites xs)
  functions_shown [] tree.no_top ok k s signed none = sym (append-nil (of_items (all_items k.functions)))
  functions_shown (top.Struct a ∷ xs) (tree.one_top is more) ok k s signed none =
      let here = each_keeps_faults with_top top_keeps xs (with_struct k a) none in
      functions_shown xs more ok.1 (with_struct k a) ((struct_goes all k a here).sound s) signed none
  functions_shown (top.Globals a ∷ xs) (tree.one_top is more) ok k s signed none =
      let here = each_keeps_faults with_top top_keeps xs (with_globals k a) none in
      functions_shown xs more ok.1 (with_globals k a) ((globals_go all k a here).sound s) (subst Signed (sym (globals_same k a)) signed) none
      ∙ ap (λ fs. of_items (all_items fs) ++ shown (tops_sites xs)) (globals_add_none k a)
  functions_shown (top.Function f ∷ xs) (tree.one_top (tree.a_function is) more) ok k s signed none =
      let l : Known = with_function k f in
      let here = each_keeps_faults with_top top_keeps xs l none in
      let c = clean k f here in
      let goes : Goes all k l = function_goes all k f ok.0 here in
      let known_there = goes.sound s in
      let same = (declares k.context f c.new).structs in
      let signed' = function_signed k.context f signed c.parameters in
      let gives = result_there l.context.scope k.context.scope f.result same (no_result_fault k f here) in
      let well = function_tells k.context.scope l.context f is.is_body (begun_here all l (result_type l.context.scope f.result) known_there signed' gives) same c.parameters c.told in
      let new : List TypedFunction = functions_of (length k.functions) (length f.parameters) (told_in l.context f) f.body in
      functions_shown xs more ok.1 l known_there signed' none
      ∙ (ap (λ us. us ++ shown (tops_sites xs)) (items_joined k.functions new ∙ ap (λ us. of_items (all_items k.functions) ++ us) (functions_show (length k.functions) (length f.parameters) (told_in l.context f) f.body well))
      ∙ (append_assoc (of_items (all_items k.functions)) (shown (body_sites f.body)) (shown (tops_sites xs)) ∙ ap (λ us. of_items (all_items k.functions) ++ us) (sym (shown_both (body_sites f.body) (tops_sites xs)))))

start_sound : (p : Program) → Sound (names (definitions p.tops)) (at_start p)
start_sound p = record { names = λ x w at. absurd (no_name x w at); functions = λ i f at. absurd (no_function i f at); fields = tt; starts = λ g at. absurd (in_none g at); all = refl }
  where
    no_name : (x : List ℕ) (w : Meaning) → find x [] ≡ Some w → ⊥
    no_name x w at = cc

    no_function : (i : ℕ) (f : FunctionOf) → slice_get [] i ≡ Some f → ⊥
    no_function i f at = cc

program_shown : (words : Words) (p : Program) → IsProgramOf words p → (known p).faults ≡ [] → of_items (all_items (known p).functions) ≡ shown (text_sites p)
program_shown words p is none = functions_shown words (names (definitions p.tops)) p.tops is.1 (belong p.tops (names (definitions p.tops)) (λ x h. h)) (at_start p) (start_sound p) tt none

-- ---- the list of sites of a typed tree

sites_among_item : (i : Item) (done more : List Access) → map in_tree (sites_after i done more) ≡ sites_among i.id more
sites_among_item i done [] = refl
sites_among_item i done (At_site k ∷ more) = ap (λ l. (i.id, kind_of k) ∷ l) (sites_among_item i (done ++ (At_site k ∷ [])) more)
sites_among_item i done (Named_load ∷ more) = sites_among_item i (done ++ (Named_load ∷ [])) more
sites_among_item i done (Named_store ∷ more) = sites_among_item i (done ++ (Named_store ∷ [])) more
sites_among_item i done (Allocates ∷ more) = sites_among_item i (done ++ (Allocates ∷ [])) more

sites_of_items : (is : List Item) → map in_tree (sites_in is) ≡ of_items is
sites_of_items [] = refl
sites_of_items (i ∷ is) =
    map-append in_tree (sites_after i [] (act_accesses i.act)) (sites_in is) ∙ both_same _ _ (sites_among i.id (act_accesses i.act)) (of_items is) (sites_among_item i [] (act_accesses i.act)) (sites_of_items is)

pub text_shows : (words : Words) (p : Program) (t : Typed) → IsProgramOf words p → IsTyping p t → map in_tree (all_sites t) ≡ map in_text (text_sites p)
text_shows words p t is typing =
    ap (λ (u : Typed). map in_tree (all_sites u)) typing.is ∙ (sites_of_items (all_items (known p).functions) ∙ program_shown words p is typing.sound)
