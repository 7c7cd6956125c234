use Rattle.std.proofs.Common.{map, string_bytes, ap, ◌∙◌, ◌∷◌}
use Rattle.ca_commands.proofs.Verbs.{no_verb, unsaid_means}
use Rattle.ca_commands.proofs.words.command_words.Goals as goal

pub returns-in_default-verb_named-clause-misworded : goal.returns-in_default-verb_named-clause-misworded
returns-in_default-verb_named-clause-misworded c = λ is. no_verb (map string_bytes c.args.words.now) (map string_bytes c.in-Some.behind.now) c.in-Some.first.now c.in-Some.ensures.found c.in_default-verb_named.ensures.none

pub returns-clause-misworded : goal.returns-clause-misworded
returns-clause-misworded c = λ is.
    unsaid_means (map string_bytes c.args.words.now) (map string_bytes c.in-Some.behind.now) c.in-Some-verb_named.verb c.in-Ok.pieces.items
    (c.in-Some.ensures.found ∙ ap (λ w. w ∷ map string_bytes c.in-Some.behind.now) c.in-Some-verb_named.ensures.found) c.in-Ok.ensures.found (rw c.deref.ensures.value at c.asked.ensures.misworded is)
