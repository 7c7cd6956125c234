-- Each expression is spelled: in parentheses, and so is each of its parts.
use Rattle.std.proofs.Common.{List, [], ◌∷◌, refl}
use Rattle.ca_tree.specs.declared.token.Word.TheVariants as word
use Rattle.ca_tree.specs.declared.token.Token.{Token}
use Rattle.ca_tree.specs.Lexed.{token}
use Rattle.ca_tree.specs.Places.{start}
use Rattle.ca_grammar.specs.Laws.{EachIsSpelled}
use Rattle.ca_grammar.proofs.EveryExpression.{at_first, opened, in_parentheses, whole}

pub every_tree : EachIsSpelled
every_tree a h i =
    let x = whole a (record { names = i; shallow = h }) in
    let end : List Token = token start word.End ∷ [] in
    record {
      operand = in_parentheses start a;
      is = refl;
      tokens = opened start (x.inside end);
      spells = record { us = end; p = start; spells = x.expression start end; end = at_first start word.End tt [] refl };
    }
