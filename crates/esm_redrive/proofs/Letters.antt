-- A dead letter is the text that `json` writes for an object, and reads back as that object.
use Rattle.std.proofs.Common.{◌≡◌, ℕ, ◌<◌, ◌≤◌, ◌+◌, ◌*◌, ◌^◌, List, [], ◌++◌, length, refl, sym, ap, ap₂, ◌∙◌, arith, append_assoc, append-nil, length-append, lit≤, Option, Some, None}
use Rattle.std.specs.Prelude.{codes, option_and_then}
use Rattle.std.specs.Str.{IsUtf8}
use Rattle.std.proofs.lemmas.Str.{IsUtf8-append, IsUtf8-from_ascii}
use Rattle.std.proofs.lemmas.Fmt.{IsAscii-decimal}
use Rattle.json.specs.Token.{Token}
use Rattle.json.specs.Print.{print, print_from, escape_byte}
use Rattle.json.specs.Print as json_print
use Rattle.json.specs.Json as json
use Rattle.json.specs.Tree.{json_tokens, HasNumbers, depth}
use Rattle.json.proofs.Printed.Utf8.{IsUtf8-are_ascii, IsUtf8-quoted}
use Rattle.json.proofs.Printed.Decimals.{IsNumber-decimal}
use Rattle.json.proofs.Printed.Tokens.{tokens-print}
use Rattle.json.proofs.Printed.Trees.{value-json_tokens, ArePrintable-json_tokens}
use Rattle.serde_json.specs.Data.{object, string, number, unsigned, Members, no_members, member}
use Rattle.serde_json.specs.Read.{of_json, read, max_depth}
use Rattle.serde_json.proofs.Numbers.{number_of-decimal}
use Rattle.serde_json.proofs.OnLiterals.{serde_json_on_literals}
use Rattle.esm_model.specs.declared.item.Message.{Message}
use Rattle.esm_model.specs.Numbers.{decimal}
use Rattle.esm_model.specs.JsonText.{quoted}
use Rattle.esm_redrive_model.specs.DeadLetter.{group_member, dead_letter}
use Rattle.esm_redrive.specs.ReadsBack.{IsUtf8Group, IsUtf8Message}
use Rattle.esm_redrive.proofs.Escapes.{quoted_same, quoted_short}

-- the text, its parts one behind the other

abbrev group_after : Option (List ℕ) → List ℕ
group_after None = codes "}"
group_after (Some group) = codes ",\"messageGroupId\":" ++ (json_print.quoted group ++ codes "}")

abbrev pub letter_text : List ℕ → List ℕ → ℕ → Option (List ℕ) → List ℕ
letter_text id body sent group =
    codes "{\"messageId\":" ++ (json_print.quoted id
    ++ (codes ",\"body\":" ++ (json_print.quoted body
    ++ (codes ",\"sentTimestamp\":" ++ (decimal sent ++ group_after group)))))

in_a_row : (a i b c d e g z : List ℕ) → ((((((a ++ i) ++ b) ++ c) ++ d) ++ e) ++ g) ++ z ≡ a ++ (i ++ (b ++ (c ++ (d ++ (e ++ (g ++ z))))))
in_a_row a i b c d e g z = simp append_assoc

group_is : (group : Option (List ℕ)) → group_member group ++ codes "}" ≡ group_after group
group_is None = refl
group_is (Some group) =
    append_assoc (codes ",\"messageGroupId\":") (quoted group) (codes "}")
    ∙ ap (λ (q : List ℕ). codes ",\"messageGroupId\":" ++ (q ++ codes "}")) (quoted_same group)

pub letter_is : (m : Message) → dead_letter m ≡ letter_text m.id m.body m.sent m.group
unfolding dead_letter
letter_is m =
    in_a_row (codes "{\"messageId\":") (quoted m.id) (codes ",\"body\":") (quoted m.body) (codes ",\"sentTimestamp\":") (decimal m.sent) (group_member m.group) (codes "}")
    ∙ (ap₂ (λ (i c : List ℕ). codes "{\"messageId\":" ++ (i ++ (codes ",\"body\":" ++ (c ++ (codes ",\"sentTimestamp\":" ++ (decimal m.sent ++ (group_member m.group ++ codes "}"))))))) (quoted_same m.id) (quoted_same m.body)
    ∙ ap (λ (z : List ℕ). codes "{\"messageId\":" ++ (json_print.quoted m.id ++ (codes ",\"body\":" ++ (json_print.quoted m.body ++ (codes ",\"sentTimestamp\":" ++ (decimal m.sent ++ z)))))) (group_is m.group))

-- the object

abbrev group_json : Option (List ℕ) → json.Members
group_json None = json.no_members
group_json (Some group) = json.member (codes "messageGroupId") (json.string group) json.no_members

abbrev letter_json : List ℕ → List ℕ → ℕ → Option (List ℕ) → json.Json
letter_json id body sent group =
    json.object (json.member (codes "messageId") (json.string id) (json.member (codes "body") (json.string body) (json.member (codes "sentTimestamp") (json.number (decimal sent)) (group_json group))))

printed : (id body : List ℕ) (sent : ℕ) (group : Option (List ℕ)) → print (json_tokens (letter_json id body sent group)) ≡ letter_text id body sent group
unfolding print_from escape_byte
printed id body sent None = refl
printed id body sent (Some group) = refl

numbers : (id body : List ℕ) (sent : ℕ) (group : Option (List ℕ)) → sent < 2 ^ 64 → HasNumbers (letter_json id body sent group)
numbers id body sent None low = (tt, (tt, (IsNumber-decimal sent low, tt)))
numbers id body sent (Some group) low = (tt, (tt, (IsNumber-decimal sent low, (tt, tt))))

shallow : (id body : List ℕ) (sent : ℕ) (group : Option (List ℕ)) → depth (letter_json id body sent group) ≤ max_depth
shallow id body sent None = lit≤ tt
shallow id body sent (Some group) = lit≤ tt

read_printed : (j : json.Json) → HasNumbers j → depth j ≤ max_depth → read (print (json_tokens j)) ≡ of_json j
read_printed j numbers low =
    ap (λ (o : Option (json.Json × List Token)). option_and_then of_json (option_and_then (λ p. json.if_last p.0 p.1) o))
    (ap (json.value max_depth) (tokens-print (json_tokens j) (ArePrintable-json_tokens j numbers) ∙ sym (append-nil (json_tokens j)))
    ∙ value-json_tokens j max_depth [] low)

abbrev pub letter_members : List ℕ → List ℕ → ℕ → Option (List ℕ) → Members
letter_members id body sent None = member (codes "body") (string body) (member (codes "messageId") (string id) (member (codes "sentTimestamp") (number (unsigned sent)) no_members))
letter_members id body sent (Some group) = member (codes "body") (string body) (member (codes "messageGroupId") (string group) (member (codes "messageId") (string id) (member (codes "sentTimestamp") (number (unsigned sent)) no_members)))

of_letter : (id body : List ℕ) (sent : ℕ) (group : Option (List ℕ)) → sent < 2 ^ 64 → of_json (letter_json id body sent group) ≡ Some (object (letter_members id body sent group))
unfolding serde_json_on_literals
of_letter id body sent None low = rw (number_of-decimal sent low) refl
of_letter id body sent (Some group) low = rw (number_of-decimal sent low) refl

pub letter_read : (id body : List ℕ) (sent : ℕ) (group : Option (List ℕ)) → sent < 2 ^ 64 → read (letter_text id body sent group) ≡ Some (object (letter_members id body sent group))
letter_read id body sent group low =
    ap read (sym (printed id body sent group))
    ∙ (read_printed (letter_json id body sent group) (numbers id body sent group low) (shallow id body sent group)
    ∙ of_letter id body sent group low)

-- its bytes

group_utf8 : (group : Option (List ℕ)) → IsUtf8Group group → IsUtf8 (group_after group)
group_utf8 None is = IsUtf8-are_ascii (codes "}") refl
group_utf8 (Some group) is = IsUtf8-append _ _ (IsUtf8-are_ascii (codes ",\"messageGroupId\":") refl) (IsUtf8-append _ _ (IsUtf8-quoted group is) (IsUtf8-are_ascii (codes "}") refl))

pub letter_utf8 : (m : Message) → m.sent < 2 ^ 64 → IsUtf8Message m → IsUtf8 (letter_text m.id m.body m.sent m.group)
letter_utf8 m low is =
    IsUtf8-append _ _ (IsUtf8-are_ascii (codes "{\"messageId\":") refl)
    (IsUtf8-append _ _ (IsUtf8-quoted m.id is.id)
    (IsUtf8-append _ _ (IsUtf8-are_ascii (codes ",\"body\":") refl)
    (IsUtf8-append _ _ (IsUtf8-quoted m.body is.body)
    (IsUtf8-append _ _ (IsUtf8-are_ascii (codes ",\"sentTimestamp\":") refl)
    (IsUtf8-append _ _ (IsUtf8-from_ascii (decimal m.sent) (IsAscii-decimal m.sent low)) (group_utf8 m.group is.group))))))

-- its length

abbrev pub group_length : Option (List ℕ) → ℕ
group_length None = 0
group_length (Some group) = length group

group_short : (group : Option (List ℕ)) → length (group_after group) ≤ 6 * group_length group + 21
group_short None = lit≤ tt
group_short (Some group) =
    let own = quoted_short group in
    let parts : length (json_print.quoted group ++ codes "}") ≡ length (json_print.quoted group) + 1 = length-append (json_print.quoted group) (codes "}") in
    let whole : length (codes ",\"messageGroupId\":" ++ (json_print.quoted group ++ codes "}")) ≡ 18 + length (json_print.quoted group ++ codes "}") = length-append (codes ",\"messageGroupId\":") (json_print.quoted group ++ codes "}") in
    omega (arith, own, parts, whole)

pub letter_short : (id body : List ℕ) (sent : ℕ) (group : Option (List ℕ)) → length (decimal sent) ≤ 15 → length (letter_text id body sent group) ≤ 6 * length id + 6 * length body + 6 * group_length group + 100
letter_short id body sent group digits =
    let g = group_short group in
    let i = quoted_short id in
    let b = quoted_short body in
    let six : length (decimal sent ++ group_after group) ≡ length (decimal sent) + length (group_after group) = length-append (decimal sent) (group_after group) in
    let five : length (codes ",\"sentTimestamp\":" ++ (decimal sent ++ group_after group)) ≡ 17 + length (decimal sent ++ group_after group) = length-append (codes ",\"sentTimestamp\":") (decimal sent ++ group_after group) in
    let rest = codes ",\"sentTimestamp\":" ++ (decimal sent ++ group_after group) in
    let four : length (json_print.quoted body ++ rest) ≡ length (json_print.quoted body) + length rest = length-append (json_print.quoted body) rest in
    let three : length (codes ",\"body\":" ++ (json_print.quoted body ++ rest)) ≡ 8 + length (json_print.quoted body ++ rest) = length-append (codes ",\"body\":") (json_print.quoted body ++ rest) in
    let more = codes ",\"body\":" ++ (json_print.quoted body ++ rest) in
    let two : length (json_print.quoted id ++ more) ≡ length (json_print.quoted id) + length more = length-append (json_print.quoted id) more in
    let one : length (codes "{\"messageId\":" ++ (json_print.quoted id ++ more)) ≡ 13 + length (json_print.quoted id ++ more) = length-append (codes "{\"messageId\":") (json_print.quoted id ++ more) in
    omega (arith, g, i, b, six, five, four, three, two, one, digits)
