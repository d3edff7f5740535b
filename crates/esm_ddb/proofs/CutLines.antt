-- A front of a turned line that is not all of it is no object: it has no closing brace, since the line has one alone, at its end.
use Rattle.std.proofs.Common.{◌≡◌, ◌∙◌, ℕ, ◌==◌, Bool, true, false, not, ◌⊎◌, inl, inr, refl, sym, ap, subst, List, [], ◌∷◌, ◌++◌, append_assoc, append-nil, codes, Option, Some, None, arith}
use Rattle.std.specs.Prelude.{⊤, Err}
use Rattle.std.specs.Fmt.{decimal}
use Rattle.std.specs.List.{list_all}
use Rattle.std.specs.Str.{is_utf8}
use Rattle.std.proofs.lemmas.Bool.{and_parts, false≢true}
use Rattle.std.proofs.lemmas.List.Folds.{list_all-append}
use Rattle.json.specs.Json.{Members, no_members, member, value}
use Rattle.json.specs.Json as json
use Rattle.json.specs.Lex.{Lexeme, token, comma, colon, Mode, between, lex, Place, fresh, after_value, after_comma, after_key, begins_colon, class, if_allowed, may_begin, may_close, place_token, punctuate, tokens}
use Rattle.json.specs.Token.{Token}
use Rattle.json.specs.Tree.{json_tokens, members_tokens}
use Rattle.serde_json.specs.Data.{Data, null, boolean, number, string, array, object}
use Rattle.serde_json.specs.Data as data_of
use Rattle.serde_json.specs.Read.{max_depth, read}
use Rattle.esm_model.specs.EventText.{base64_text, shard_id}
use Rattle.esm_model.specs.Records.{Record}
use Rattle.esm_record.specs.Line.{line_of, object_of, record_of}
use Rattle.esm_record.specs.declared.error.LineError.TheVariants.{NotJson}
use Rattle.esm_window.specs.Layout.{begin, byte_of, next, put, token_byte}
use Rattle.esm_window.proofs.Bytes.{facts}
use Rattle.esm_window.proofs.Grammar.{tokens_are}
use Rattle.esm_window.proofs.Layouts.{lex-cons, lex-nil}
use Rattle.esm_ddb.specs.Turned.{record_line}
use Rattle.esm_ddb.proofs.AnsweredStates.{parsed}
use Rattle.esm_ddb.proofs.Fronts.{first}
use Rattle.esm_ddb.proofs.ReadBack.{IsWritten, base64_bare, decimal_digits, digits_bare, is_bare, line_is, line_of_texts, seq_digits, shard_bare}

-- ---- a text without a closing brace

abbrev pub no_brace : ℕ → Bool
no_brace x = not (x == 125)

abbrev NoneEnds : List Lexeme → Type 0
NoneEnds [] = ⊤
NoneEnds (l ∷ ls) = (byte_of l ≡ 125 → ⊥) × NoneEnds ls

abbrev NoEnds : List Token → Type 0
NoEnds [] = ⊤
NoEnds (t ∷ ts) = (token_byte t ≡ 125 → ⊥) × NoEnds ts

no_end : ◌≡◌ {A = ℕ} 48 125 → ⊥
no_end e = false≢true (ap (λ (x : ℕ). x == 125) e)

other_byte : (x : ℕ) → no_brace x ≡ true → x ≡ 125 → ⊥
other_byte x h is = false≢true (sym (ap no_brace is) ∙ h)

put_ends : (o : Option Lexeme) (ls : List Lexeme) → ((l : Lexeme) → o ≡ Some l → byte_of l ≡ 125 → ⊥) → NoneEnds ls → NoneEnds (put o ls)
put_ends None ls h rest = rest
put_ends (Some l) ls h rest = (h l refl, rest)

begun_byte : (m : Mode) (x : ℕ) (xs : List ℕ) → no_brace x ≡ true → (l : Lexeme) → begin m (class x) x xs ≡ Some l → byte_of l ≡ 125 → ⊥
begun_byte m x xs h l e is =
    let marked : byte_of l ≡ 48 → ⊥ = λ k. no_end (sym k ∙ is) in
    other_byte x h ((first m (class x) x xs l e marked (facts x)).byte ∙ is)

lexed_ends : (m : Mode) (xs : List ℕ) → list_all no_brace xs ≡ true → NoneEnds (lex m xs)
lexed_ends m [] h = subst NoneEnds (sym (lex-nil m)) tt
lexed_ends m (x ∷ xs) h =
    let p = and_parts (no_brace x) (list_all no_brace xs) h in
    subst NoneEnds (sym (lex-cons m x xs)) (put_ends (begin m (class x) x xs) (lex (next m (class x)) xs) (begun_byte m x xs p.0) (lexed_ends (next m (class x)) xs p.1))

allowed_ends : (b : Bool) (t : Token) (k : Place → List Token) (q : Place) → (token_byte t ≡ 125 → ⊥) → NoEnds (k q) → NoEnds (if_allowed b t k q)
allowed_ends true t k q h rest = (h, rest)
allowed_ends false t k q h rest = (no_end, tt)

placed_ends : (p : Place) (t : Token) (c : Bool) (k : Place → List Token) → (token_byte t ≡ 125 → ⊥) → ((q : Place) → NoEnds (k q)) → NoEnds (place_token p t c k)
placed_ends p Token.begin_object c k h rest = allowed_ends (may_begin p) Token.begin_object k fresh h (rest fresh)
placed_ends p Token.end_object c k h rest = absurd (h refl)
placed_ends p Token.begin_array c k h rest = allowed_ends (may_begin p) Token.begin_array k fresh h (rest fresh)
placed_ends p Token.end_array c k h rest = allowed_ends (may_close p) Token.end_array k after_value h (rest after_value)
placed_ends p (Token.key s) c k h rest = (no_end, tt)
placed_ends p (Token.string s) true k h rest = allowed_ends (may_begin p) (Token.key s) k after_key no_end (rest after_key)
placed_ends p (Token.string s) false k h rest = allowed_ends (may_begin p) (Token.string s) k after_value h (rest after_value)
placed_ends p (Token.number s) c k h rest = allowed_ends (may_begin p) (Token.number s) k after_value h (rest after_value)
placed_ends p (Token.boolean b) c k h rest = allowed_ends (may_begin p) (Token.boolean b) k after_value h (rest after_value)
placed_ends p Token.null c k h rest = allowed_ends (may_begin p) Token.null k after_value h (rest after_value)
placed_ends p Token.bad c k h rest = (no_end, tt)

punctuated_ends : (p : Place) (ls : List Lexeme) → NoneEnds ls → NoEnds (punctuate p ls)
unfolding punctuate
punctuated_ends fresh [] h = tt
punctuated_ends after_value [] h = tt
punctuated_ends after_comma [] h = (no_end, tt)
punctuated_ends after_key [] h = (no_end, tt)
punctuated_ends fresh (token t ∷ ls) h = placed_ends fresh t (begins_colon ls) (λ q. punctuate q ls) h.0 (λ q. punctuated_ends q ls h.1)
punctuated_ends after_value (token t ∷ ls) h = placed_ends after_value t (begins_colon ls) (λ q. punctuate q ls) h.0 (λ q. punctuated_ends q ls h.1)
punctuated_ends after_comma (token t ∷ ls) h = placed_ends after_comma t (begins_colon ls) (λ q. punctuate q ls) h.0 (λ q. punctuated_ends q ls h.1)
punctuated_ends after_key (token t ∷ ls) h = placed_ends after_key t (begins_colon ls) (λ q. punctuate q ls) h.0 (λ q. punctuated_ends q ls h.1)
punctuated_ends fresh (comma ∷ ls) h = (no_end, tt)
punctuated_ends after_value (comma ∷ ls) h = punctuated_ends after_comma ls h.1
punctuated_ends after_comma (comma ∷ ls) h = (no_end, tt)
punctuated_ends after_key (comma ∷ ls) h = (no_end, tt)
punctuated_ends fresh (colon ∷ ls) h = (no_end, tt)
punctuated_ends after_value (colon ∷ ls) h = (no_end, tt)
punctuated_ends after_comma (colon ∷ ls) h = (no_end, tt)
punctuated_ends after_key (colon ∷ ls) h = punctuated_ends fresh ls h.1

behind : (ts us : List Token) → NoEnds (ts ++ us) → NoEnds us
behind [] us h = h
behind (t ∷ ts) us h = behind ts us h.1

members_end : (ms : Members) → NoEnds (members_tokens ms) → ⊥
members_end no_members h = h.0 refl
members_end (member k j ms) h = members_end ms (behind (json_tokens j) (members_tokens ms) h.1)

no_object : (text : List ℕ) (dm : data_of.Members) → list_all no_brace text ≡ true → read text ≡ Some (object dm) → ⊥
no_object text dm h e =
    let o = parsed (value max_depth (tokens text)) dm e in
    let all : tokens text ≡ json_tokens (json.object o.0) = tokens_are max_depth (tokens text) (json.object o.0) [] o.1 ∙ append-nil (json_tokens (json.object o.0)) in
    let none : NoEnds (json_tokens (json.object o.0)) = subst NoEnds all (punctuated_ends fresh (lex between text) (lexed_ends between text h)) in
    members_end o.0 none.1

object_by : (text : List ℕ) → list_all no_brace text ≡ true → (u : Bool) (o : Option Data) → is_utf8 text ≡ u → read text ≡ o → object_of text ≡ None
object_by text h false o utf8 e = rw utf8 refl
object_by text h true None utf8 e = rw (utf8, e) refl
object_by text h true (Some null) utf8 e = rw (utf8, e) refl
object_by text h true (Some (boolean b)) utf8 e = rw (utf8, e) refl
object_by text h true (Some (number n)) utf8 e = rw (utf8, e) refl
object_by text h true (Some (string s)) utf8 e = rw (utf8, e) refl
object_by text h true (Some (array ds)) utf8 e = rw (utf8, e) refl
object_by text h true (Some (object dm)) utf8 e = absurd (no_object text dm h e)

pub refused : (text : List ℕ) → list_all no_brace text ≡ true → line_of record_of text ≡ Err NotJson
refused text h = let none : object_of text ≡ None = object_by text h (is_utf8 text) (read text) refl refl in rw none refl

-- ---- a front of a line that ends in a brace

front_free : (b q front : List ℕ) (x : ℕ) → b ++ x ∷ q ≡ front ++ 125 ∷ [] → list_all no_brace front ≡ true → list_all no_brace b ≡ true
front_free [] q front x e h = refl
front_free (y ∷ []) q [] x e h = let never : x ∷ q ≡ [] = cc in cc
front_free (y ∷ z ∷ b) q [] x e h = let never : z ∷ (b ++ x ∷ q) ≡ [] = cc in cc
front_free (y ∷ b) q (f ∷ front) x e h =
    let p = and_parts (no_brace f) (list_all no_brace front) h in
    let heads : y ≡ f = cc in
    let tails : b ++ x ∷ q ≡ front ++ 125 ∷ [] = cc in
    rw (heads, p.0, front_free b q front x tails p.1) refl

-- ---- the line of a record

bare_free : (ds : List ℕ) → list_all is_bare ds ≡ true → list_all no_brace ds ≡ true
bare_free [] h = refl
bare_free (x ∷ xs) h =
    let p = and_parts (is_bare x) (list_all is_bare xs) h in
    let one : no_brace x ≡ true = (and_parts _ (no_brace x) p.0).1 in
    rw (one, bare_free xs p.1) refl

abbrev front_of : (s q k d m : List ℕ) → List ℕ
front_of s q k d m =
    codes "{\"shardId\":\"" ++ s ++ codes "\",\"sequenceNumber\":\"" ++ q ++ codes "\",\"partitionKey\":\"" ++ k
    ++ codes "\",\"data\":\"" ++ d ++ codes "\",\"approximateArrivalTimestamp\":" ++ m

front_free_so : (s q k d m : List ℕ) → list_all no_brace s ≡ true → list_all no_brace q ≡ true → list_all no_brace k ≡ true → list_all no_brace d ≡ true → list_all no_brace m ≡ true → list_all no_brace (front_of s q k d m) ≡ true
front_free_so s q k d m hs hq hk hd hm = simp (list_all-append, hs, hq, hk, hd, hm)

grouped : (a s b q c k e d f m g : List ℕ) → a ++ s ++ b ++ q ++ c ++ k ++ e ++ d ++ f ++ m ++ g ≡ (a ++ s ++ b ++ q ++ c ++ k ++ e ++ d ++ f ++ m) ++ g
grouped a s b q c k e d f m g = simp append_assoc

texts_end : (s q k d m : List ℕ) → line_of_texts s q k d m ≡ front_of s q k d m ++ 125 ∷ []
texts_end s q k d m =
    grouped (codes "{\"shardId\":\"") s (codes "\",\"sequenceNumber\":\"") q (codes "\",\"partitionKey\":\"") k (codes "\",\"data\":\"") d (codes "\",\"approximateArrivalTimestamp\":") m (codes "}")

-- a front of it is all of it, or is refused
pub cut_line : (r : Record) (b q : List ℕ) → IsWritten r → b ++ q ≡ record_line r → (b ≡ record_line r) ⊎ (line_of record_of b ≡ Err NotJson)
cut_line r b [] w e = inl (sym (append-nil b) ∙ e)
cut_line r b (x ∷ q) w e =
    let s = shard_id r.shard in
    let d = base64_text r.payload in
    let m = decimal r.arrival in
    let free : list_all no_brace (front_of s r.seq r.key d m) ≡ true =
    front_free_so s r.seq r.key d m (bare_free s (shard_bare r.shard)) (bare_free r.seq (digits_bare r.seq (seq_digits r.seq w.seq))) (bare_free r.key w.key.bare) (bare_free d (base64_bare r.payload w.bytes))
    (bare_free m (digits_bare m (decimal_digits r.arrival (omega (arith, w.arrival))))) in
    inr (refused b (front_free b q (front_of s r.seq r.key d m) x (e ∙ line_is r ∙ texts_end s r.seq r.key d m) free))
