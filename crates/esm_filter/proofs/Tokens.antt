-- What the tokens of a document are converted to: an equation for a bracket, for a turn of a loop, and for the whole text.
-- A turn takes what its value is read as, or None, so that one equation serves a value that is read and one that is refused.
use Rattle.std.proofs.Common.{◌≡◌, ℕ, zero, suc, ◌-◌, List, [], ◌∷◌, Option, Some, None, option_map, option_and_then, refl, sym, ap, ◌∙◌, arith}
use Rattle.std.proofs.lemmas.Iterator.Adapters.{option_map_id}
use Rattle.json.specs.Token.{Token}
use Rattle.json.specs.Json as json
use Rattle.json.specs.Json.{Json, Parse, parse_map, after_end_array, read_key, items_step, members_step, items, members, if_last}
use Rattle.serde_json.specs.Data.{Data, array, object, Items, item, Members, no_members, put}
use Rattle.serde_json.specs.Read.{of_json, of_items, of_members, converted}

-- ---- the conversion of what is built from a parse

option_map-option_map : {A B C : Type 0} (f : B → C) (g : A → B) (o : Option A) → option_map f (option_map g o) ≡ option_map (λ a. f (g a)) o
option_map-option_map f g None = refl
option_map-option_map f g (Some a) = refl

converted-as : {A B D : Type 0} (convert : B → Option D) (build : A → B) (built : A → Option D) → ((a : A) → convert (build a) ≡ built a) → (o : Option (A × List Token)) → converted convert (parse_map build o) ≡ converted built o
converted-as convert build built law None = refl
converted-as convert build built law (Some p) = ap (option_map (λ d. (d, p.1))) (law p.0)

converted-none : {A D : Type 0} (o : Option (A × List Token)) → converted {B = D} (λ a. None) o ≡ None
converted-none None = refl
converted-none (Some p) = refl

converted-option_map : {A B C : Type 0} (wrap : B → C) (convert : A → Option B) (o : Option (A × List Token)) → converted (λ a. option_map wrap (convert a)) o ≡ parse_map wrap (converted convert o)
converted-option_map wrap convert None = refl
converted-option_map wrap convert (Some p) = option_map-option_map (λ c. (c, p.1)) wrap (convert p.0) ∙ sym (option_map-option_map (λ q. (wrap q.0, q.1)) (λ b. (b, p.1)) (convert p.0))

pub in_array : (o : Option (json.Items × List Token)) → converted of_json (parse_map json.array o) ≡ parse_map array (converted of_items o)
in_array o = converted-as of_json json.array (λ js. option_map array (of_items js)) (λ js. refl) o ∙ converted-option_map array of_items o

pub in_object : (o : Option (json.Members × List Token)) → converted of_json (parse_map json.object o) ≡ parse_map object (converted (λ ms. of_members ms no_members) o)
in_object o = converted-as of_json json.object (λ ms. option_map object (of_members ms no_members)) (λ ms. refl) o ∙ converted-option_map object (λ ms. of_members ms no_members) o

-- ---- a turn: a value is read, and the loop goes on with what comes after it

-- what is read of the rest, after a first value
abbrev pub after : {X Y : Type 0} → (Data → X → Option Y) → Parse X → Option (Data × List Token) → Option (Y × List Token)
after on more first = option_and_then (λ q. converted (on q.0) (more q.1)) first

-- `add` puts a value before the rest, and `on` converts the rest after that value
module _ {X Y : Type 0} (convert : X → Option Y) (add : Json → X → X) (on : Data → X → Option Y) (law : (j : Json) (x : X) → convert (add j x) ≡ option_and_then (λ d. on d x) (of_json j)) where
  turn_by : (more : Parse X) (j : Json) (ts : List Token) (v : Option Data) → of_json j ≡ v → converted convert (parse_map (add j) (more ts)) ≡ after on more (option_map (λ d. (d, ts)) v)
  turn_by more j ts None e = converted-as convert (add j) (λ x. None) (λ x. law j x ∙ ap (option_and_then (λ d. on d x)) e) (more ts) ∙ converted-none (more ts)
  turn_by more j ts (Some d) e = converted-as convert (add j) (on d) (λ x. law j x ∙ ap (option_and_then (λ v. on v x)) e) (more ts)

  turn_of : (more : Parse X) (o : Option (Json × List Token)) → converted convert (option_and_then (λ p. parse_map (add p.0) (more p.1)) o) ≡ after on more (converted of_json o)
  turn_of more None = refl
  turn_of more (Some p) = turn_by more p.0 p.1 (of_json p.0) refl

  turn : (loop : ℕ → Parse X) (n : ℕ) (o : Option (Json × List Token)) (first : Option (Data × List Token)) → converted of_json o ≡ first
      → converted convert (option_and_then (λ p. parse_map (add p.0) (loop n p.1)) o) ≡ after on (loop (suc n - 1)) first
  turn loop n o first e =
      let same : n ≡ suc n - 1 = omega arith in
      turn_of (loop n) o ∙ ap (after on (loop n)) e ∙ ap (λ m. after on (loop m) first) same

-- the items, and the members, that a loop reads after those before
abbrev pub items_after : (Items → Items) → json.Items → Option Items
items_after before js = option_map before (of_items js)

abbrev pub members_after : Members → json.Members → Option Members
members_after before ms = of_members ms before

item_after : (before : Items → Items) (ds : Option Items) (v : Option Data) → option_map before (option_and_then (λ d. option_map (item d) ds) v) ≡ option_and_then (λ d. option_map (λ es. before (item d es)) ds) v
item_after before ds None = refl
item_after before ds (Some d) = option_map-option_map before (item d) ds

pub nothing_before : (o : Option (json.Items × List Token)) → converted of_items o ≡ converted (items_after (λ ds. ds)) o
nothing_before None = refl
nothing_before (Some p) = ap (option_map (λ d. (d, p.1))) (sym (option_map_id (of_items p.0)))

module _ (value : Parse Json) where
  pub item_turn : (before : Items → Items) (n : ℕ) (ts : List Token) (first : Option (Data × List Token)) → after_end_array ts ≡ None → converted of_json (value ts) ≡ first
      → converted (items_after before) (items value n ts) ≡ after (λ d. items_after (λ ds. before (item d ds))) (items value (n - 1)) first
  unfolding items
  item_turn before zero ts None going e = refl
  item_turn before zero ts (Some q) going e = refl
  item_turn before (suc n) ts first going e =
      ap (λ o. converted (items_after before) (items_step value (items value n) ts o)) going
      ∙ turn (items_after before) json.item (λ d. items_after (λ ds. before (item d ds))) (λ j js. item_after before (of_items js) (of_json j)) (items value) n (value ts) first e

  pub member_turn : (before : Members) (n : ℕ) (k : List ℕ) (ts s : List Token) (first : Option (Data × List Token)) → read_key ts ≡ Some (Some k, s) → converted of_json (value s) ≡ first
      → converted (members_after before) (members value n ts) ≡ after (λ d. members_after (put k d before)) (members value (n - 1)) first
  unfolding members
  member_turn before zero k ts s None key e = refl
  member_turn before zero k ts s (Some q) key e = refl
  member_turn before (suc n) k ts s first key e =
      ap (λ o. converted (members_after before) (option_and_then (λ q. members_step value (members value n) q.0 q.1) o)) key
      ∙ turn (members_after before) (json.member k) (λ d. members_after (put k d before)) (λ j ms. refl) (members value) n (value s) first e

-- ---- the whole text, which is one value with no token after it

abbrev pub sole_value : Option (Json × List Token) → Option Data
sole_value o = option_and_then of_json (option_and_then (λ p. if_last p.0 p.1) o)

abbrev sole_data_at : Data → List Token → Option Data
sole_data_at d [] = Some d
sole_data_at d (t ∷ ts) = None

abbrev pub sole_data : Option (Data × List Token) → Option Data
sole_data first = option_and_then (λ q. sole_data_at q.0 q.1) first

sole_by : (ts : List Token) (j : Json) (v : Option Data) → of_json j ≡ v → option_and_then of_json (if_last j ts) ≡ sole_data (option_map (λ d. (d, ts)) v)
sole_by [] j None e = e
sole_by [] j (Some d) e = e
sole_by (t ∷ ts) j None e = refl
sole_by (t ∷ ts) j (Some d) e = refl

sole_value-of : (o : Option (Json × List Token)) → sole_value o ≡ sole_data (converted of_json o)
sole_value-of None = refl
sole_value-of (Some p) = sole_by p.1 p.0 (of_json p.0) refl

pub sole_value_is : (o : Option (Json × List Token)) (first : Option (Data × List Token)) → converted of_json o ≡ first → sole_value o ≡ sole_data first
sole_value_is o first e = sole_value-of o ∙ ap sole_data e
