-- Declarations of a program in which nothing is wrong: what they declare is known behind them, and what was known stays.
use Rattle.std.proofs.Common.{◌≡◌, ℕ, Bool, true, false, List, [], ◌∷◌, ◌++◌, length, arith, refl, sym, ◌∙◌, ap, subst, inl, inr}
use Rattle.std.specs.Prelude.{◌||◌, if◌then◌else◌}
use Rattle.std.specs.Option.{is_some}
use Rattle.std.specs.List.{AllByRecursion, list_any}
use Rattle.std.specs.Str.{bytes_eq}
use Rattle.std.proofs.lemmas.Bool.{or_cases}
use Rattle.ca_tree.specs.declared.tree.Function.{Function}
use Rattle.ca_tree.specs.declared.tree.Top.{Top}
use Rattle.ca_tree.specs.declared.tree.Top.TheVariants as top
use Rattle.ca_model.specs.declared.types.Meaning.TheVariants as means
use Rattle.ca_model.specs.typing.Faults.{unless}
use Rattle.ca_model.specs.typing.Scopes.{Signature}
use Rattle.ca_model.specs.typing.Signatures.{result_faults, parameter_faults, signature, is_new, is_defined, is_right, function_faults, with_signature}
use Rattle.ca_model.specs.typing.Structs.{with_struct}
use Rattle.ca_model.specs.typing.Globals.{with_globals}
use Rattle.ca_model.specs.typing.Functions.{told_in, with_function}
use Rattle.ca_model.specs.typing.Known.{Known, with_each}
use Rattle.ca_model.specs.typing.Programs.{with_top, definitions}
use Rattle.ca_model.proofs.NoFaults.{held_by_none}
use Rattle.ca_model.proofs.EmptyFaults.{none_in}
use Rattle.ca_model.proofs.TypedFields.{EachTyped}
use Rattle.ca_model.proofs.KnownSoFar.{Grows, Declared, Sound, declared_on, Goes, goes_self, goes_on, KeepsFaults, each_keeps_faults, each_keeps}
use Rattle.ca_model.proofs.GlobalsKnown.{struct_keeps, struct_goes, globals_keep, globals_go}
use Rattle.ca_model.proofs.SignaturesKnown.{RightIn, Declares, declares, right_behind}

-- nothing is wrong with a function
pub record Clean (k : Known) (f : Function) : Type 0 where
  pub before : k.faults ≡ []
  pub parameters : parameter_faults k.context.scope f.parameters ≡ []
  pub new : is_new k.context f ≡ true
  pub right : is_right k.context f (signature k.context.scope f) ≡ true
  pub defined : (is_some f.body || is_defined k.context f.name.text) ≡ true
  pub told : (told_in (with_signature k.context f) f).faults ≡ []

pub clean : (k : Known) (f : Function) → (with_function k f).faults ≡ [] → Clean k f
clean k f none =
    let all = none_in k.faults (function_faults k.context f ++ (told_in (with_signature k.context f) f).faults) none in
    let both = none_in (function_faults k.context f) (told_in (with_signature k.context f) f).faults all.1 in
    let four = none_in (result_faults k.context.scope f.result ++ parameter_faults k.context.scope f.parameters ++ unless _ _ ++ unless _ _) (unless _ _) both.0 in
    let three = none_in (result_faults k.context.scope f.result ++ parameter_faults k.context.scope f.parameters ++ unless _ _) (unless _ _) four.0 in
    let two = none_in (result_faults k.context.scope f.result ++ parameter_faults k.context.scope f.parameters) (unless _ _) three.0 in
    record {
      before = all.0;
      parameters = (none_in (result_faults k.context.scope f.result) (parameter_faults k.context.scope f.parameters) two.0).1;
      new = held_by_none (is_new k.context f) _ two.1;
      right = held_by_none (is_right k.context f (signature k.context.scope f)) _ three.1;
      defined = held_by_none (is_some f.body || is_defined k.context f.name.text) _ four.1;
      told = both.1;
    }

pub right_on : (k l : Known) (n : List ℕ) (parameters : ℕ) → Grows k l → RightIn k.context n parameters → RightIn l.context n parameters
right_on k l n parameters g (i, f, named, at, same) = let on = g.functions i f at in (i, on.0, g.names n (means.Function i) named, on.1, ap (λ (s : Signature). length s.parameters) on.2 ∙ same)

abbrev pub RightFor : Known → Function → Type 0
RightFor k f = RightIn k.context f.name.text (length f.parameters)

one_more : (P : Function → Type 0) (b : Bool) (f : Function) (fs : List Function) → (b ≡ true → P f) → AllByRecursion P fs → AllByRecursion P (if b then f ∷ fs else fs)
one_more P true f fs h more = (h refl, more)
one_more P false f fs h more = more

pub top_keeps : KeepsFaults with_top
top_keeps k (top.Struct a) none = struct_keeps k a none
top_keeps k (top.Globals a) none = globals_keep k a none
top_keeps k (top.Function f) none = (clean k f none).before

module _ (defined : List (List ℕ)) where
  -- a function with a body is one of those that the program defines
  abbrev pub Defines : Function → Type 0
  Defines f = is_some f.body ≡ true → list_any (λ m. bytes_eq f.name.text m) defined ≡ true

  abbrev pub Belongs : Top → Type 0
  Belongs (top.Function f) = Defines f
  Belongs _ = Unit {0}

  pub function_goes : (k : Known) (f : Function) → Defines f → (with_function k f).faults ≡ [] → Goes defined k (with_function k f)
  function_goes k f ok none =
      let l : Known = with_function k f in
      let h = clean k f none in
      let d : Declares k.context l.context f.name.text = declares k.context f h.new in
      let grows : Grows k l = record { names = d.names; functions = d.functions; defined = d.defined; mutexes = omega arith; starts = omega arith } in
      record {
        grows = grows;
        sound = λ s.
            let there : is_defined l.context f.name.text ≡ true =
            elim (or_cases (is_some f.body) (is_defined k.context f.name.text) h.defined) [
              | inl body ↦ subst (λ ns. list_any (λ m. bytes_eq f.name.text m) ns ≡ true) (sym (d.defined ∙ s.all)) (ok body)
              | inr before ↦ subst (λ ns. list_any (λ m. bytes_eq f.name.text m) ns ≡ true) (sym d.defined) before
            ] in
            record {
              names = λ x w at. elim (d.either x w at) [
                | inl old ↦ declared_on k l x w grows (s.names x w old)
                | inr new ↦
                    let i = new.1 in
                    subst (λ v. Declared l x v) i.1 (subst (λ ns. is_defined l.context ns ≡ true) (sym new.0) there, i.2)
              ];
              functions = d.there s.functions;
              fields = subst EachTyped (sym d.structs) s.fields;
              starts = s.starts;
              all = d.defined ∙ s.all;
            };
      }

  -- a definition agrees with the first declaration of its name
  pub function_right : (k : Known) (f : Function) → Sound defined k → (with_function k f).faults ≡ [] → is_some f.body ≡ true → RightIn (with_function k f).context f.name.text (length f.parameters)
  function_right k f s none body =
      let h = clean k f none in
      right_behind k.context f h.new h.right body s.functions (λ i at. (s.names f.name.text (means.Function i) at).1)

  -- ---- all declarations

  pub top_goes : (k : Known) (a : Top) → Belongs a → (with_top k a).faults ≡ [] → Goes defined k (with_top k a)
  top_goes k (top.Struct a) ok none = struct_goes defined k a none
  top_goes k (top.Globals a) ok none = globals_go defined k a none
  top_goes k (top.Function f) ok none = function_goes k f ok none

  pub all_go : (xs : List Top) → AllByRecursion Belongs xs → (k : Known) → (with_each with_top k xs).faults ≡ [] → Goes defined k (with_each with_top k xs)
  all_go xs ok k none = each_keeps with_top top_keeps (Goes defined k) Belongs (λ l a is h i. goes_on defined k l (with_top l a) h (top_goes l a is i)) xs ok k (goes_self defined k) none

  -- each definition agrees with the first declaration of its name
  pub definitions_right : (xs : List Top) → AllByRecursion Belongs xs → (k : Known) → Sound defined k → (with_each with_top k xs).faults ≡ [] → AllByRecursion (RightFor (with_each with_top k xs)) (definitions xs)
  definitions_right [] ok k s none = tt
  definitions_right (top.Struct a ∷ xs) ok k s none =
      let here = each_keeps_faults with_top top_keeps xs (with_struct k a) none in
      definitions_right xs ok.1 (with_struct k a) ((struct_goes defined k a here).sound s) none
  definitions_right (top.Globals a ∷ xs) ok k s none =
      let here = each_keeps_faults with_top top_keeps xs (with_globals k a) none in
      definitions_right xs ok.1 (with_globals k a) ((globals_go defined k a here).sound s) none
  definitions_right (top.Function f ∷ xs) ok k s none =
      let l : Known = with_function k f in
      let here = each_keeps_faults with_top top_keeps xs l none in
      one_more (RightFor (with_each with_top l xs)) (is_some f.body) f (definitions xs)
      (λ body. right_on l (with_each with_top l xs) f.name.text (length f.parameters) (all_go xs ok.1 l none).grows (function_right k f s here body))
      (definitions_right xs ok.1 l ((function_goes k f ok.0 here).sound s) none)
