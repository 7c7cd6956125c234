use Rattle.std.proofs.Common.{◌≡◌, ℕ, ◌+◌, ◌/◌, ◌%◌, ◌<◌, false, List, [], ◌∷◌, ◌++◌, length, get_or, drop, string_bytes, sym, ap, ◌∙◌, append_assoc, add-one, drop-cons, rules}
use Rattle.std.specs.Fmt.{digit_glyph}
use Rattle.std.proofs.lemmas.Fmt.{hex_byte}
use Rattle.ca_model.specs.Traces.{hex_digits}
use Rattle.ca_events.proofs.writing.digits_of_bytes.Goals as goal

-- the digits of one more byte
one_more : (bytes old pair new whole : List ℕ) (i : ℕ) → i < length bytes → pair ≡ digit_glyph false (get_or bytes i 0 / 16) ∷ digit_glyph false (get_or bytes i 0 % 16) ∷ [] → new ≡ old ++ pair → old ++ hex_digits (drop i bytes) ≡ whole → new ++ hex_digits (drop (i + 1) bytes) ≡ whole
one_more bytes old pair new whole i here is appended done =
    let rest : drop i bytes ≡ get_or bytes i 0 ∷ drop (i + 1) bytes = rw (add-one, drop-cons bytes i 0) in
    ap (λ t. t ++ hex_digits (drop (i + 1) bytes)) (appended ∙ ap (λ t. old ++ t) is) ∙ (append_assoc old (digit_glyph false (get_or bytes i 0 / 16) ∷ digit_glyph false (get_or bytes i 0 % 16) ∷ []) (hex_digits (drop (i + 1) bytes)) ∙ (ap (λ t. old ++ hex_digits t) (sym rest) ∙ done))

pub bytes-preserved : goal.bytes-preserved
bytes-preserved c =
    let n : ℕ = get_or c.args.bytes.now c.bytes.byte-index 0 in
    let small : n < 256 = search rules in
    let pair : string_bytes c.in_ok-pair.pair ≡ digit_glyph false (n / 16) ∷ digit_glyph false (n % 16) ∷ [] = (rw (c.laid_out.ensures, c.in_radix.ensures) at c.in_ok-pair.ensures.ok) ∙ hex_byte false (get_or c.args.bytes.now c.bytes.byte-index 0) small in
    one_more c.args.bytes.now _ (string_bytes c.in_ok-pair.pair) _ _ c.bytes.byte-index c.bytes-test.true pair (c.in_ok-push_str.ensures.bytes ∙ ap (λ t. string_bytes c.bytes.text ++ t) c.as_str.ensures.value) c.bytes.invariant
