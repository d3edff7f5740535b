-- Characters of ASCII are UTF-8.
use Rattle.std.proofs.Common.{◌≡◌, ℕ, true, nat_lt, refl, List, [], ◌∷◌, IsUtf8, arith}
use Rattle.std.specs.List.{list_all}
use Rattle.std.proofs.lemmas.Bool.{and_parts}
use Rattle.std.proofs.lemmas.Bool.Decides.{nat_tests}
use Rattle.json.proofs.Printed.Utf8.{are_ascii, IsUtf8-are_ascii}
use Rattle.esm_record.specs.Usual.{is_plain}

ascii_one : (x : ℕ) → is_plain x ≡ true → nat_lt x 128 ≡ true
ascii_one x h = grind (arith, nat_tests)

plain_ascii : (xs : List ℕ) → list_all is_plain xs ≡ true → are_ascii xs ≡ true
plain_ascii [] h = refl
plain_ascii (x ∷ xs) h =
    let p = and_parts (is_plain x) (list_all is_plain xs) h in
    rw (ascii_one x p.0, plain_ascii xs p.1) refl

pub plain_utf8 : (xs : List ℕ) → list_all is_plain xs ≡ true → IsUtf8 xs
plain_utf8 xs h = IsUtf8-are_ascii xs (plain_ascii xs h)
