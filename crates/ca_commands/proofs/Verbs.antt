-- The word of a command says which it is.
use Rattle.std.proofs.Common.{◌≡◌, ℕ, List, ◌∷◌, cond, refl, sym, ap, subst, ◌∙◌, get_or}
use Rattle.std.specs.Prelude.{◌==◌}
use Rattle.ca_commands.specs.declared.words.Verb.{Verb}
use Rattle.ca_commands.specs.declared.words.Verb.TheVariants as verb
use Rattle.ca_commands.specs.Words.{Piece, Spell, Command, Run, Check, Sites, Project, Lift, word_of, Says, Means}
use Rattle.ca_commands.specs.Options.{verb_text, verb_of}
use Rattle.ca_commands.proofs.OneMeaning.{same_pieces}

pub word_is : (c : Command) → word_of c ≡ verb_text (verb_of c)
word_is (Run o) = refl
word_is (Check o) = refl
word_is (Sites o) = refl
word_is (Project o) = refl
word_is (Lift o) = refl

-- a word that is none of them begins no command
pub no_verb : (words behind : List (List ℕ)) (w : List ℕ) → words ≡ w ∷ behind → ((v : Verb) → w ≡ verb_text v → ⊥) → (c : Command) → Means words c → ⊥
no_verb words behind w is never c m =
    let both : word_of c ∷ m.behind ≡ w ∷ behind = sym m.command ∙ is in
    let word : word_of c ≡ w = cc in
    never (verb_of c) (sym word ∙ word_is c)

-- which it is, by its first letter
abbrev verb_at : ℕ → Verb
verb_at c = cond (c == 114) verb.Run (cond (c == 99) verb.Check (cond (c == 115) verb.Sites (cond (c == 112) verb.Project verb.Lift)))

found : (v : Verb) → verb_at (get_or (verb_text v) 0 0) ≡ v
found verb.Run = refl
found verb.Check = refl
found verb.Sites = refl
found verb.Project = refl
found verb.Lift = refl

one_verb : (a b : Verb) → verb_text a ≡ verb_text b → a ≡ b
one_verb a b is = sym (found a) ∙ (ap (λ t. verb_at (get_or t 0 0)) is ∙ found b)

-- what the pieces behind the word of a command don't say, the words don't mean
pub unsaid_means : (words behind : List (List ℕ)) (v : Verb) (ps : List Piece) → words ≡ verb_text v ∷ behind → Spell ps behind → ((c : Command) → verb_of c ≡ v → Says ps c → ⊥) → (c : Command) → Means words c → ⊥
unsaid_means words behind v ps is spelled never c m =
    let (word, same) = same_pieces words behind (verb_text v) ps is spelled c m in
    never c (one_verb (verb_of c) v (sym (word_is c) ∙ word)) (subst (λ qs. Says qs c) same m.says)

pub said_means : (words behind : List (List ℕ)) (v : Verb) (ps : List Piece) → words ≡ verb_text v ∷ behind → Spell ps behind → (c : Command) → Says ps c → verb_of c ≡ v → Means words c
said_means words behind v ps is spelled c says which = record { behind = behind; pieces = ps; command = is ∙ ap (λ w. w ∷ behind) (sym (word_is c ∙ ap verb_text which)); spelled = spelled; says = says }
