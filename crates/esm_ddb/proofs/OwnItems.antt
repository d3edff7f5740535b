-- Keys and images of a line in the form that is recognised stand there as they are written, and read back.
use Rattle.std.proofs.Common.{◌≡◌, ◌∙◌, ℕ, ◌<◌, ◌≤◌, lit≤, arith, Bool, true, false, refl, sym, ap, List, [], ◌∷◌, ◌++◌, append_assoc, codes, length, length-append, Option, Some, None}
use Rattle.std.specs.Prelude.{IfSome}
use Rattle.std.specs.Borrow.{Bor}
use Rattle.std.specs.List.{All, flat_map, list_all}
use Rattle.std.proofs.lemmas.Bool.{and_parts}
use Rattle.std.proofs.lemmas.Bool.Decides.{nat_tests}
use Rattle.std.proofs.lemmas.List.Elements.{All-cons, All-head, All-nil, All-tail}
use Rattle.json.specs.Json as json
use Rattle.json.specs.Tree as tree
use Rattle.json.specs.Print as print
use Rattle.json.specs.Print.{escape, escape_byte}
use Rattle.json.proofs.Printed.Strings.{escape_byte_plain}
use Rattle.serde_json.specs.Data.{Members, no_members, member, object, string}
use Rattle.serde_json.specs.Read.{of_json}
use Rattle.serde_json.specs.Written as written
use Rattle.serde_json.specs.Written.{members_outline, outline}
use Rattle.esm_model.specs.JsonText.{escaped_byte, quoted}
use Rattle.esm_record.specs.Line.{only_if}
use Rattle.esm_ddb.specs.Attribute.{are_key_values, is_item, is_text_type}
use Rattle.esm_ddb.specs.ItemText.{comma_if, members_text, value_text}
use Rattle.esm_ddb.specs.OwnForm.{is_kept}
use Rattle.esm_ddb.specs.OwnLine.{IsOwnItem, IsTextAttribute, Leads, PassesAttribute, PassesAttributes, PassesImage, PassesItem, PassesText, TextAttribute, attribute_text, attributes_text, members_of, trees_of}
use Rattle.esm_ddb.specs.Tree.{goes_on, is_before, is_in_order, members_in}
use Rattle.esm_ddb.proofs.RecordText.{own_kept}
use Rattle.esm_ddb.proofs.Trees.{ordered_data}

-- ---- texts

escape_one : (x : ℕ) → is_kept x ≡ true → escape_byte x ≡ x ∷ []
escape_one x h = escape_byte_plain x (grind (arith, nat_tests)) (grind (arith, nat_tests)) (grind (arith, nat_tests))

pub escape_kept : (s : List ℕ) → list_all is_kept s ≡ true → escape s ≡ s
escape_kept [] h = refl
escape_kept (x ∷ xs) h =
    let p = and_parts (is_kept x) (list_all is_kept xs) h in
    rw (escape_one x p.0, escape_kept xs p.1) refl

-- ---- attributes

attribute_joined : (q n k b t c e r : List ℕ)
    → (q ++ (n ++ q)) ++ (k ++ ((b ++ ((q ++ (t ++ q)) ++ (k ++ ((q ++ (c ++ q)) ++ e)))) ++ r))
    ≡ (q ++ (n ++ ((q ++ (k ++ (b ++ q))) ++ (t ++ ((q ++ (k ++ q)) ++ (c ++ (q ++ e))))))) ++ r
attribute_joined q n k b t c e r = simp append_assoc

attribute_is : (n t c r : List ℕ)
    → (codes "\"" ++ (n ++ codes "\"")) ++ (codes ":" ++ ((codes "{" ++ ((codes "\"" ++ (t ++ codes "\"")) ++ (codes ":" ++ ((codes "\"" ++ (c ++ codes "\"")) ++ codes "}")))) ++ r))
    ≡ (codes "\"" ++ (n ++ (codes "\":{\"" ++ (t ++ (codes "\":\"" ++ (c ++ codes "\"}")))))) ++ r
attribute_is n t c r = attribute_joined (codes "\"") n (codes ":") (codes "{") t c (codes "}") r

compact_one : (n t c r : List ℕ) → escape n ≡ n → escape t ≡ t → escape c ≡ c
    → print.quoted n ++ 58 ∷ (written.compact_text (object (member t (string c) no_members)) ++ r) ≡ attribute_text (record { name = n; tag = t; content = c }) ++ r
compact_one n t c r en et ec = rw (en, et, ec) (attribute_is n t c r)

pub compact_is : (later : Bool) (xs : List TextAttribute) → All IsTextAttribute xs → written.members_text later (members_of xs) ≡ attributes_text later xs
compact_is later [] all = refl
compact_is later (a ∷ xs) all =
    let is = All-head IsTextAttribute a xs all in
    ap (λ l. comma_if later ++ (print.quoted a.name ++ 58 ∷ (written.compact_text (object (member a.tag (string a.content) no_members)) ++ l))) (compact_is true xs (All-tail IsTextAttribute a xs all))
    ∙ ap (λ l. comma_if later ++ l) (compact_one a.name a.tag a.content (attributes_text true xs) (escape_kept a.name is.name) (escape_kept a.tag is.tag) (escape_kept a.content is.content))

text_one : (n t c r : List ℕ) → flat_map escaped_byte n ≡ n → flat_map escaped_byte t ≡ t → flat_map escaped_byte c ≡ c
    → quoted n ++ (codes ":" ++ (value_text (object (member t (string c) no_members)) ++ r)) ≡ attribute_text (record { name = n; tag = t; content = c }) ++ r
text_one n t c r en et ec = rw (en, et, ec) (attribute_is n t c r)

pub text_is : (later : Bool) (xs : List TextAttribute) → All IsTextAttribute xs → members_text later (members_of xs) ≡ attributes_text later xs
text_is later [] all = refl
text_is later (a ∷ xs) all =
    let is = All-head IsTextAttribute a xs all in
    ap (λ l. comma_if later ++ (quoted a.name ++ (codes ":" ++ (value_text (object (member a.tag (string a.content) no_members)) ++ l)))) (text_is true xs (All-tail IsTextAttribute a xs all))
    ∙ ap (λ l. comma_if later ++ l) (text_one a.name a.tag a.content (attributes_text true xs) (own_kept a.name is.name) (own_kept a.tag is.tag) (own_kept a.content is.content))

-- ---- they read back

numbers_in : (xs : List TextAttribute) → tree.MembersHaveNumbers (members_outline (members_of xs))
numbers_in [] = tt
numbers_in (a ∷ xs) = ((tt, tt), numbers_in xs)

shallow_in : (xs : List TextAttribute) → tree.members_depth (members_outline (members_of xs)) ≤ 1
shallow_in [] = lit≤ tt
shallow_in (a ∷ xs) = let h = shallow_in xs in omega arith

outline_is : (xs : List TextAttribute) → members_outline (members_of xs) ≡ trees_of xs
outline_is [] = refl
outline_is (a ∷ xs) = ap (json.member a.name (json.object (json.member a.tag (json.string a.content) json.no_members))) (outline_is xs)

data_is : (xs : List TextAttribute) → members_in (trees_of xs) ≡ members_of xs
data_is [] = refl
data_is (a ∷ xs) = ap (member a.name (object (member a.tag (string a.content) no_members))) (data_is xs)

reads_back : (xs : List TextAttribute) → is_in_order (trees_of xs) ≡ true → of_json (outline (object (members_of xs))) ≡ Some (object (members_of xs))
reads_back xs order =
    ap (λ ms. of_json (json.object ms)) (outline_is xs) ∙ ordered_data (json.object (trees_of xs)) order ∙ ap (λ ms. Some (object ms)) (data_is xs)

are_values : (xs : List TextAttribute) → All IsTextAttribute xs → are_key_values (members_of xs) ≡ true
are_values [] all = refl
are_values (a ∷ xs) all = rw ((All-head IsTextAttribute a xs all).typed, are_values xs (All-tail IsTextAttribute a xs all)) refl

are_attributes : (xs : List TextAttribute) → All IsTextAttribute xs → is_item (members_of xs) ≡ true
are_attributes [] all = refl
are_attributes (a ∷ xs) all = rw ((All-head IsTextAttribute a xs all).typed, are_attributes xs (All-tail IsTextAttribute a xs all)) refl

pub only_true : {A : Type 0} (b : Bool) (x : A) → b ≡ true → only_if b x ≡ Some x
only_true b x h = rw h refl

deep_by : (ms : Members) → tree.members_depth (members_outline ms) ≤ 1 → tree.depth (outline (object ms)) ≤ 2
deep_by ms low = omega (arith, low)

own_item : (a : TextAttribute) (xs : List TextAttribute) → All IsTextAttribute (a ∷ xs) → is_in_order (trees_of (a ∷ xs)) ≡ true → IsOwnItem (object (members_of (a ∷ xs)))
own_item a xs all order =
    let ms = members_of (a ∷ xs) in
    record {
      written = ap (λ l. 123 ∷ l) (compact_is false (a ∷ xs) all ∙ sym (text_is false (a ∷ xs) all));
      numbers = numbers_in (a ∷ xs);
      reads = reads_back (a ∷ xs) order;
      shallow = deep_by ms (shallow_in (a ∷ xs));
      item = only_true (is_item ms) (object ms) (are_attributes (a ∷ xs) all);
      keys = only_true (are_key_values ms) (object ms) (are_values (a ∷ xs) all);
    }

-- ---- what is read of a text

attribute_read : (q n x t y c z rest : List ℕ)
    → q ++ (n ++ (x ++ (t ++ (y ++ (c ++ (z ++ rest)))))) ≡ (q ++ (n ++ (x ++ (t ++ (y ++ (c ++ z)))))) ++ rest
attribute_read q n x t y c z rest = simp append_assoc

pub attribute_passed : (text begun name behind_name typed tag behind_tag begun_content content behind_content rest : List ℕ) → text ≡ codes "\"" ++ begun → PassesText begun name behind_name
    → behind_name ≡ codes ":{\"" ++ typed → PassesText typed tag behind_tag → behind_tag ≡ codes ":\"" ++ begun_content → PassesText begun_content content behind_content
    → behind_content ≡ codes "}" ++ rest → is_text_type tag ≡ true → PassesAttribute text name rest
attribute_passed text begun name behind_name typed tag behind_tag begun_content content behind_content rest a n b t d c e is = record {
  attribute = record { name = name; tag = tag; content = content };
  good = record { name = n.kept; tag = t.kept; typed = is; content = c.kept };
  is = a
      ∙ ap (λ l. codes "\"" ++ l) (n.is ∙ ap (λ l. name ++ 34 ∷ l) (b ∙ ap (λ l. codes ":{\"" ++ l) (t.is ∙ ap (λ l. tag ++ 34 ∷ l) (d ∙ ap (λ l. codes ":\"" ++ l) (c.is ∙ ap (λ l. content ++ 34 ∷ l) e)))))
      ∙ attribute_read (codes "\"") name (codes "\":{\"") tag (codes "\":\"") content (codes "\"}") rest;
  name_is = refl;
}

-- the attribute goes before those that are left
in_order : (a : TextAttribute) (xs : List TextAttribute) → goes_on (Some a.name) (trees_of xs) ≡ true → is_in_order (trees_of xs) ≡ true → is_in_order (trees_of (a ∷ xs)) ≡ true
in_order a xs goes order = rw (goes, order) refl

pub leads_first : (text name left : List ℕ) → PassesAttribute text name left → Leads text name left
leads_first text name left p = record {
  when = λ xs rest all goes order same.
      let after : goes_on (Some p.attribute.name) (trees_of xs) ≡ true = ap (λ n. goes_on (Some n) (trees_of xs)) (sym p.name_is) ∙ goes in
      record {
        first = p.attribute;
        others = xs;
        good = All-cons IsTextAttribute p.attribute xs p.good all;
        order = in_order p.attribute xs after order;
        is = p.is ∙ ap (λ l. attribute_text p.attribute ++ l) same ∙ sym (append_assoc (attribute_text p.attribute) (attributes_text true xs) rest);
      };
}

comma_read : (a b rest : List ℕ) → codes "," ++ (a ++ (b ++ rest)) ≡ (codes "," ++ (a ++ b)) ++ rest
comma_read a b rest = ap (λ l. 44 ∷ l) (sym (append_assoc a b rest))

pub leads_next : (text before left next name after : List ℕ) → Leads text before left → left ≡ codes "," ++ next → PassesAttribute next name after → is_before before name ≡ true → Leads text name after
leads_next text before left next name after so begins p less = record {
  when = λ xs rest all goes order same.
      let behind : goes_on (Some p.attribute.name) (trees_of xs) ≡ true = ap (λ n. goes_on (Some n) (trees_of xs)) (sym p.name_is) ∙ goes in
      let first : is_before before p.attribute.name ≡ true = ap (λ n. is_before before n) (sym p.name_is) ∙ less in
      so.when (p.attribute ∷ xs) rest (All-cons IsTextAttribute p.attribute xs p.good all) first (in_order p.attribute xs behind order)
      (begins ∙ ap (λ l. codes "," ++ l) (p.is ∙ ap (λ l. attribute_text p.attribute ++ l) same) ∙ comma_read (attribute_text p.attribute) (attributes_text true xs) rest);
}

pub left_smaller : (left next name after : List ℕ) → left ≡ codes "," ++ next → PassesAttribute next name after → length after < length left
left_smaller left next name after begins p = omega (arith, ap length begins, ap length p.is, length-append (attribute_text p.attribute) after)

leads_end : (text name left rest : List ℕ) → Leads text name left → left ≡ codes "}" ++ rest → PassesAttributes text rest
leads_end text name left rest so is = so.when [] rest (All-nil IsTextAttribute) refl refl is

pub leads_last : (text name left : List ℕ) (r : Option (Bor (List ℕ))) → Leads text name left → IfSome r (λ x. left ≡ codes "}" ++ x.now) → IfSome r (λ x. PassesAttributes text x.now)
leads_last text name left None so is = tt
leads_last text name left (Some x) so is = leads_end text name left x.now so is

item_passed : (text attributes rest : List ℕ) → text ≡ codes "{" ++ attributes → PassesAttributes attributes rest → PassesItem text rest
item_passed text attributes rest begins p =
    let xs = p.first ∷ p.others in
    record {
      value = object (members_of xs);
      own = own_item p.first p.others p.good p.order;
      is = begins ∙ ap (λ l. 123 ∷ l) p.is ∙ ap (λ l. 123 ∷ (l ++ rest)) (sym (text_is false xs p.good));
    }

pub item_last : (text attributes : List ℕ) (r : Option (Bor (List ℕ))) → text ≡ codes "{" ++ attributes → IfSome r (λ x. PassesAttributes attributes x.now) → IfSome r (λ x. PassesItem text x.now)
item_last text attributes None begins p = tt
item_last text attributes (Some x) begins p = item_passed text attributes x.now begins p

image_passed : (name text image rest : List ℕ) → text ≡ name ++ image → PassesItem image rest → PassesImage name text rest
image_passed name text image rest begins p = record {
  image = Some p.value;
  own = p.own;
  is = begins ∙ ap (λ l. name ++ l) p.is ∙ sym (append_assoc name (value_text p.value) rest);
}

pub image_last : (name text image : List ℕ) (r : Option (Bor (List ℕ))) → text ≡ name ++ image → IfSome r (λ x. PassesItem image x.now) → IfSome r (λ x. PassesImage name text x.now)
image_last name text image None begins p = tt
image_last name text image (Some x) begins p = image_passed name text image x.now begins p

pub no_image : (name text : List ℕ) → PassesImage name text text
no_image name text = record { image = None; own = tt; is = refl }
