-- A line in the form in which programs write it is the object of its members.
use Rattle.std.proofs.Common.{◌≡◌, ◌∙◌, ℕ, ◌^◌, ◌<◌, ◌≤◌, arith, lit≤, true, refl, sym, ap, List, [], ◌∷◌, ◌++◌, append_assoc, append-nil, codes, Option, Some, option_map, option_and_then, IsUtf8}
use Rattle.std.specs.Fmt.{decimal}
use Rattle.std.specs.List.{list_all}
use Rattle.std.proofs.lemmas.Bool.{and_parts}
use Rattle.std.proofs.lemmas.Bool.Decides.{nat_tests}
use Rattle.std.proofs.lemmas.Fmt.{IsAscii-decimal}
use Rattle.std.proofs.lemmas.Str.{IsUtf8-append, IsUtf8-from_ascii, is_utf8-from_IsUtf8}
use Rattle.json.specs.Token.{Token}
use Rattle.json.specs.Lex.{tokens}
use Rattle.json.specs.Json as json
use Rattle.json.specs.Print.{escape, escape_byte}
use Rattle.json.specs.Tree as tree
use Rattle.json.proofs.Printed.Decimals.{IsNumber-decimal}
use Rattle.json.proofs.Printed.Strings.{escape_byte_plain}
use Rattle.json.proofs.Printed.Tokens.{tokens-print}
use Rattle.json.proofs.Printed.Trees.{ArePrintable-json_tokens, value-json_tokens}
use Rattle.json.proofs.Printed.Utf8.{are_ascii, IsUtf8-are_ascii}
use Rattle.serde_json.specs.Data.{Data, number, object, string, unsigned, Members, member, no_members, put}
use Rattle.serde_json.specs.Read.{max_depth, of_json, read}
use Rattle.serde_json.specs.Written.{compact_text, outline}
use Rattle.serde_json.proofs.Numbers.{number_of-decimal}
use Rattle.serde_json.proofs.Texts.{print-outline}
use Rattle.esm_record.specs.Line.{object_of}
use Rattle.esm_record.specs.Usual.{is_plain, IsUsual, moment_text, usual_text}
use Rattle.esm_record.specs.declared.usual.UsualLine.{UsualLine}
use Rattle.esm_record.proofs.PlainTexts.{plain_utf8}
use Rattle.esm_record.proofs.Records.{object_is}

-- ---- characters of ASCII that stand in a JSON text for themselves

escape_one : (x : ℕ) → is_plain x ≡ true → escape_byte x ≡ x ∷ []
escape_one x h = escape_byte_plain x (grind (arith, nat_tests)) (grind (arith, nat_tests)) (grind (arith, nat_tests))

escape_plain : (s : List ℕ) → list_all is_plain s ≡ true → escape s ≡ s
escape_plain [] h = refl
escape_plain (x ∷ xs) h =
    let p = and_parts (is_plain x) (list_all is_plain xs) h in
    rw (escape_one x p.0, escape_plain xs p.1) refl

-- ---- the text of the object

abbrev members_of : (s q k d : List ℕ) → ℕ → Members
members_of s q k d m =
    member (codes "shardId") (string s)
    (member (codes "sequenceNumber") (string q)
    (member (codes "partitionKey") (string k)
    (member (codes "data") (string d)
    (member (codes "approximateArrivalTimestamp") (number (unsigned m)) no_members))))

-- a text and its quotation mark stand before the rest
joined : (a s x b q c k e d f m g : List ℕ)
    → a ++ ((s ++ x) ++ (b ++ ((q ++ x) ++ (c ++ ((k ++ x) ++ (e ++ ((d ++ x) ++ (f ++ (m ++ g)))))))))
    ≡ a ++ (s ++ (x ++ (b ++ (q ++ (x ++ (c ++ (k ++ (x ++ (e ++ (d ++ (x ++ (f ++ (m ++ g)))))))))))))
joined a s x b q c k e d f m g = simp append_assoc

compact_of : (s q k d : List ℕ) (m : ℕ) → escape s ≡ s → escape q ≡ q → escape k ≡ k → escape d ≡ d
    → compact_text (object (members_of s q k d m)) ≡ usual_text s q k d m
unfolding escape_byte
compact_of s q k d m es eq ek ed =
    rw (es, eq, ek, ed)
    (joined (codes "{\"shardId\":\"") s (codes "\"") (codes ",\"sequenceNumber\":\"") q (codes ",\"partitionKey\":\"") k
    (codes ",\"data\":\"") d (codes ",\"approximateArrivalTimestamp\":") (decimal m) (codes "}"))

-- ---- it is read

abbrev whole : Option (json.Json × List Token) → Option Data
whole o = option_and_then of_json (option_and_then (λ p. json.if_last p.0 p.1) o)

read_outline : (d : Data) → tree.HasNumbers (outline d) → tree.depth (outline d) ≤ max_depth → read (compact_text d) ≡ of_json (outline d)
read_outline d numbers shallow =
    let same : tokens (compact_text d) ≡ tree.json_tokens (outline d) =
    ap tokens (sym (print-outline d)) ∙ tokens-print (tree.json_tokens (outline d)) (ArePrintable-json_tokens (outline d) numbers) in
    ap whole (ap (json.value max_depth) (same ∙ sym (append-nil (tree.json_tokens (outline d)))) ∙ value-json_tokens (outline d) max_depth [] shallow)

-- its members, one after another
abbrev texts_put : (s q k d : List ℕ) → Members
texts_put s q k d = put (codes "data") (string d) (put (codes "partitionKey") (string k) (put (codes "sequenceNumber") (string q) (put (codes "shardId") (string s) no_members)))

abbrev pub members_put : (s q k d : List ℕ) → ℕ → Members
members_put s q k d m = put (codes "approximateArrivalTimestamp") (number (unsigned m)) (texts_put s q k d)

read_members : (s q k d : List ℕ) (m : ℕ) → m < 2 ^ 64 → read (compact_text (object (members_of s q k d m))) ≡ Some (object (members_put s q k d m))
read_members s q k d m fits =
    read_outline (object (members_of s q k d m)) (tt, (tt, (tt, (tt, (IsNumber-decimal m fits, tt))))) (lit≤ tt)
    ∙ ap (λ n. option_map object (option_and_then (λ v. Some (put (codes "approximateArrivalTimestamp") v (texts_put s q k d))) (option_map number n))) (number_of-decimal m fits)

-- ---- it is UTF-8

utf8_member : (literal s rest : List ℕ) → are_ascii literal ≡ true → IsUtf8 s → IsUtf8 rest → IsUtf8 (literal ++ (s ++ 34 ∷ rest))
utf8_member literal s rest ascii u v =
    IsUtf8-append literal (s ++ 34 ∷ rest) (IsUtf8-are_ascii literal ascii) (IsUtf8-append s (34 ∷ rest) u (IsUtf8-append (34 ∷ []) rest (IsUtf8-are_ascii (34 ∷ []) refl) v))

utf8_moment : (m : ℕ) → m < 2 ^ 64 → IsUtf8 (moment_text m)
utf8_moment m fits =
    IsUtf8-append (codes ",\"approximateArrivalTimestamp\":") (decimal m ++ codes "}") (IsUtf8-are_ascii (codes ",\"approximateArrivalTimestamp\":") refl)
    (IsUtf8-append (decimal m) (codes "}") (IsUtf8-from_ascii (decimal m) (IsAscii-decimal m fits)) (IsUtf8-are_ascii (codes "}") refl))

utf8_text : (s q k d : List ℕ) (m : ℕ) → IsUtf8 s → IsUtf8 q → IsUtf8 k → IsUtf8 d → m < 2 ^ 64 → IsUtf8 (usual_text s q k d m)
utf8_text s q k d m us uq uk ud fits =
    utf8_member (codes "{\"shardId\":\"") s _ refl us (utf8_member (codes ",\"sequenceNumber\":\"") q _ refl uq (utf8_member (codes ",\"partitionKey\":\"") k _ refl uk
    (utf8_member (codes ",\"data\":\"") d _ refl ud (utf8_moment m fits))))

-- ---- the line

text_object : (s q k d : List ℕ) (m : ℕ) → list_all is_plain s ≡ true → list_all is_plain q ≡ true → list_all is_plain k ≡ true → list_all is_plain d ≡ true → m < 2 ^ 64
    → object_of (usual_text s q k d m) ≡ Some (object (members_put s q k d m))
text_object s q k d m ps pq pk pd fits =
    let text = usual_text s q k d m in
    let is = compact_of s q k d m (escape_plain s ps) (escape_plain q pq) (escape_plain k pk) (escape_plain d pd) in
    let utf8 = utf8_text s q k d m (plain_utf8 s ps) (plain_utf8 q pq) (plain_utf8 k pk) (plain_utf8 d pd) fits in
    object_is _ (read text) (members_put s q k d m) (is_utf8-from_IsUtf8 text utf8) (ap read (sym is) ∙ read_members s q k d m fits)

abbrev pub members_in : UsualLine → Members
members_in u = members_put u.shard.bytes.now u.seq.bytes.now u.key.bytes.now u.payload.bytes.now u.arrival

pub usual_object : (line : List ℕ) (u : UsualLine) → IsUsual line u → object_of line ≡ Some (object (members_in u))
usual_object line u h = ap object_of h.is ∙ text_object u.shard.bytes.now u.seq.bytes.now u.key.bytes.now u.payload.bytes.now u.arrival h.shard h.seq h.key h.payload h.fits
