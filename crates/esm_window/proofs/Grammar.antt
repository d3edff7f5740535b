-- What the grammar reads are the tokens of the value, none of them bad.
use Rattle.std.proofs.Common.{◌≡◌, ℕ, zero, suc, List, [], ◌∷◌, ◌++◌, length, Option, Some, None, refl, sym, ap, ◌∙◌, subst, append_assoc}
use Rattle.std.specs.Prelude.{⊤}
use Rattle.std.specs.Option.{option_and_then}
use Rattle.json.specs.Token.{Token}
use Rattle.json.specs.Json.{Json, null, boolean, number, string, array, object, Items, no_items, item, Members, no_members, member, Parse, parse_map, after_end_array, read_key, items_step, members_step, items, members, value_with, value}
use Rattle.json.specs.Tree.{json_tokens, items_tokens, members_tokens}
use Rattle.json.proofs.Grammar.{closed_array, read_key_is}
use Rattle.esm_window.specs.Layout.{NoBad}

-- what was read, then what is left, is what was there
abbrev Gave : {A : Type 0} → (A → List Token) → List Token → Option (A × List Token) → Type 0
Gave f ts None = ⊤
Gave f ts (Some p) = ts ≡ f p.0 ++ p.1

abbrev Gives : {A : Type 0} → (A → List Token) → Parse A → Type 0
Gives f parse = (ts : List Token) → Gave f ts (parse ts)

item_and : (ts : List Token) (j : Json) (rest : List Token) → ts ≡ json_tokens j ++ rest → (o : Option (Items × List Token)) → Gave items_tokens rest o → Gave items_tokens ts (parse_map (item j) o)
item_and ts j rest e None h = tt
item_and ts j rest e (Some p) h = e ∙ ap (λ l. json_tokens j ++ l) h ∙ sym (append_assoc (json_tokens j) (items_tokens p.0) p.1)

item_first : (more : Parse Items) → Gives items_tokens more → (ts : List Token) (o : Option (Json × List Token)) → Gave json_tokens ts o
    → Gave items_tokens ts (option_and_then (λ p. parse_map (item p.0) (more p.1)) o)
item_first more gives ts None h = tt
item_first more gives ts (Some p) h = item_and ts p.0 p.1 h (more p.1) (gives p.1)

item_turn : (parse : Parse Json) (more : Parse Items) → Gives json_tokens parse → Gives items_tokens more → (ts : List Token) (o : Option (List Token)) → after_end_array ts ≡ o
    → Gave items_tokens ts (items_step parse more ts o)
item_turn parse more g h ts (Some rest) e = closed_array ts rest e
item_turn parse more g h ts None e = item_first more h ts (parse ts) (g ts)

items_give : (parse : Parse Json) → Gives json_tokens parse → (n : ℕ) → Gives items_tokens (items parse n)
unfolding items
items_give parse g zero ts = tt
items_give parse g (suc n) ts = item_turn parse (items parse n) g (items_give parse g n) ts (after_end_array ts) refl

member_and : (ts : List Token) (k : List ℕ) (us : List Token) (j : Json) (rest : List Token) → ts ≡ Token.key k ∷ us → us ≡ json_tokens j ++ rest
    → (o : Option (Members × List Token)) → Gave members_tokens rest o → Gave members_tokens ts (parse_map (member k j) o)
member_and ts k us j rest e f None h = tt
member_and ts k us j rest e f (Some p) h =
    e ∙ ap (λ l. Token.key k ∷ l) (f ∙ ap (λ l. json_tokens j ++ l) h ∙ sym (append_assoc (json_tokens j) (members_tokens p.0) p.1))

member_first : (more : Parse Members) → Gives members_tokens more → (ts : List Token) (k : List ℕ) (us : List Token) → ts ≡ Token.key k ∷ us → (o : Option (Json × List Token)) → Gave json_tokens us o
    → Gave members_tokens ts (option_and_then (λ p. parse_map (member k p.0) (more p.1)) o)
member_first more gives ts k us e None h = tt
member_first more gives ts k us e (Some p) h = member_and ts k us p.0 p.1 e h (more p.1) (gives p.1)

member_turn : (parse : Parse Json) (more : Parse Members) → Gives json_tokens parse → Gives members_tokens more → (ts : List Token) (o : Option (Option (List ℕ) × List Token)) → read_key ts ≡ o
    → Gave members_tokens ts (option_and_then (λ p. members_step parse more p.0 p.1) o)
member_turn parse more g h ts None e = tt
member_turn parse more g h ts (Some (None, us)) e = read_key_is ts None us e
member_turn parse more g h ts (Some (Some k, us)) e = member_first more h ts k us (read_key_is ts (Some k) us e) (parse us) (g us)

members_give : (parse : Parse Json) → Gives json_tokens parse → (n : ℕ) → Gives members_tokens (members parse n)
unfolding members
members_give parse g zero ts = tt
members_give parse g (suc n) ts = member_turn parse (members parse n) g (members_give parse g n) ts (read_key ts) refl

opened_array : (ts : List Token) (o : Option (Items × List Token)) → Gave items_tokens ts o → Gave json_tokens (Token.begin_array ∷ ts) (parse_map array o)
opened_array ts None h = tt
opened_array ts (Some p) h = ap (λ l. Token.begin_array ∷ l) h

opened_object : (ts : List Token) (o : Option (Members × List Token)) → Gave members_tokens ts o → Gave json_tokens (Token.begin_object ∷ ts) (parse_map object o)
opened_object ts None h = tt
opened_object ts (Some p) h = ap (λ l. Token.begin_object ∷ l) h

value_with_gives : (a : Parse Items) (o : Parse Members) → Gives items_tokens a → Gives members_tokens o → Gives json_tokens (value_with a o)
value_with_gives a o g h [] = tt
value_with_gives a o g h (Token.begin_object ∷ ts) = opened_object ts (o ts) (h ts)
value_with_gives a o g h (Token.end_object ∷ ts) = tt
value_with_gives a o g h (Token.begin_array ∷ ts) = opened_array ts (a ts) (g ts)
value_with_gives a o g h (Token.end_array ∷ ts) = tt
value_with_gives a o g h (Token.key s ∷ ts) = tt
value_with_gives a o g h (Token.string s ∷ ts) = refl
value_with_gives a o g h (Token.number s ∷ ts) = refl
value_with_gives a o g h (Token.boolean b ∷ ts) = refl
value_with_gives a o g h (Token.null ∷ ts) = refl
value_with_gives a o g h (Token.bad ∷ ts) = tt

value_gives : (depth : ℕ) → Gives json_tokens (value depth)
unfolding value
value_gives zero = value_with_gives (λ ts. None) (λ ts. None) (λ ts. tt) (λ ts. tt)
value_gives (suc depth) =
    value_with_gives (λ ts. items (value depth) (length ts) ts) (λ ts. members (value depth) (length ts) ts)
    (λ ts. items_give (value depth) (value_gives depth) (length ts) ts) (λ ts. members_give (value depth) (value_gives depth) (length ts) ts)

gave : (A : Type 0) (f : A → List Token) (ts : List Token) (o : Option (A × List Token)) (a : A) (rest : List Token) → o ≡ Some (a, rest) → Gave f ts o → ts ≡ f a ++ rest
gave A f ts None a rest e h = cc
gave A f ts (Some p) a rest e h = let P : Option (A × List Token) → Type 0 = Gave f ts in subst P e h

pub tokens_are : (depth : ℕ) (ts : List Token) (j : Json) (rest : List Token) → value depth ts ≡ Some (j, rest) → ts ≡ json_tokens j ++ rest
tokens_are depth ts j rest e = gave Json json_tokens ts (value depth ts) j rest e (value_gives depth ts)

-- ---- none is bad

NoBad-append : (ts us : List Token) → NoBad ts → NoBad us → NoBad (ts ++ us)
NoBad-append [] us g h = h
NoBad-append (t ∷ ts) us g h = (g.0, NoBad-append ts us g.1 h)

mutual
  json_no_bad : (j : Json) → NoBad (json_tokens j)
  json_no_bad null = (refl, tt)
  json_no_bad (boolean b) = (refl, tt)
  json_no_bad (number s) = (refl, tt)
  json_no_bad (string s) = (refl, tt)
  json_no_bad (array js) = (refl, items_no_bad js)
  json_no_bad (object ms) = (refl, members_no_bad ms)

  items_no_bad : (js : Items) → NoBad (items_tokens js)
  items_no_bad no_items = (refl, tt)
  items_no_bad (item j js) = NoBad-append (json_tokens j) (items_tokens js) (json_no_bad j) (items_no_bad js)

  members_no_bad : (ms : Members) → NoBad (members_tokens ms)
  members_no_bad no_members = (refl, tt)
  members_no_bad (member k j ms) = (refl, NoBad-append (json_tokens j) (members_tokens ms) (json_no_bad j) (members_no_bad ms))

pub no_bad : (j : Json) → NoBad (json_tokens j ++ [])
no_bad j = NoBad-append (json_tokens j) [] (json_no_bad j) tt
