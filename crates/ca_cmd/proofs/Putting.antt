-- A text that is put line by line.
use Rattle.std.proofs.Common.{◌≡◌, ℕ, List, [], ◌++◌, Option, Ok, Err, refl, sym, ap, subst, append_assoc, append-nil, ◌∙◌}
use Rattle.std.specs.Io.KnownBytes.{Appends, Keeps}
use Rattle.ca_io.specs.declared.outside.PutNo.TheVariants.{Failed, NoMemory}
use Rattle.ca_io.specs.Outside.{AppendsPart}
use Rattle.ca_io.proofs.Puts.{appends_nothing, part_front, put_whole, put_part}

-- the text up to a rest was put
pub record IsPut (old new : Option (List ℕ)) (text rest : List ℕ) : Type 0 where
  pub front : List ℕ
  pub whole : text ≡ front ++ rest
  pub put : Appends old new front

pub begins : (old : Option (List ℕ)) (text : List ℕ) → IsPut old old text text
begins old text = record { front = []; whole = refl; put = appends_nothing old }

module _ (old mid new : Option (List ℕ)) (text rest line behind : List ℕ) (p : IsPut old mid text rest) (cut : rest ≡ line ++ behind) where
  text_is : text ≡ (p.front ++ line) ++ behind
  text_is = p.whole ∙ (ap (λ (t : List ℕ). p.front ++ t) cut ∙ sym (append_assoc p.front line behind))

  pub one_more : Appends mid new line → IsPut old new text behind
  one_more adds = record { front = p.front ++ line; whole = text_is; put = put_whole {T = Unit {0}} (Ok tt) old mid new p.front line p.put adds }

  pub part_of_line : AppendsPart mid new line → AppendsPart old new text
  part_of_line part = subst (AppendsPart old new) (sym text_is) (part_front old new (p.front ++ line) behind (put_part {T = Unit {0}} (Err Failed) old mid new p.front line p.put (λ is. part) (λ is. absurd cc)))

  pub kept_there : Keeps mid new → AppendsPart old new text
  kept_there keeps = subst (AppendsPart old new) (sym text_is) (part_front old new (p.front ++ line) behind (put_part {T = Unit {0}} (Err NoMemory) old mid new p.front line p.put (λ is. absurd cc) (λ is. keeps)))

pub all_put : (old new : Option (List ℕ)) (text rest : List ℕ) → IsPut old new text rest → rest ≡ [] → Appends old new text
all_put old new text rest p is = subst (Appends old new) (sym (p.whole ∙ (ap (λ (t : List ℕ). p.front ++ t) is ∙ append-nil p.front))) p.put

-- nothing of a text was put
pub kept_part : (old new : Option (List ℕ)) (text : List ℕ) → Keeps old new → AppendsPart old new text
kept_part old new text keeps = put_part {T = Unit {0}} (Err NoMemory) old old new [] text (appends_nothing old) (λ is. absurd cc) (λ is. keeps)
