-- A tree whose objects are in order stands for its data as it stands.
use Rattle.std.proofs.Common.{◌≡◌, ◌∙◌, ℕ, ℤ, ◌+◌, ◌^◌, ◌<◌, nat_le, nat_lt, ◌≤◌, Bool, true, false, cond, ◌&&◌, refl, sym, ap, subst, List, [], ◌∷◌, get_or, drop, length, Option, Some, None, Result, Ok, Err, option_map, option_and_then, bytes_eq, Ordering, Less, Equal, Greater, true≢false}
use Rattle.std.specs.Borrow.{Bor}
use Rattle.std.specs.Prelude.{is_some, unwrap_or, IfSome, ⊤}
use Rattle.std.specs.Cmp.Lexicographic.{slice_cmp}
use Rattle.std.specs.Float.{Float, binary64, float_is_finite}
use Rattle.std.specs.Option.{ok_or}
use Rattle.std.specs.Str.{is_utf8}
use Rattle.std.specs.Ordering.{is_eq, is_lt, match_ordering, nat_cmp, ordering_reverse}
use Rattle.std.specs.declared.alloc.Global.{Global}
use Rattle.std.proofs.lemmas.Bool.{and_parts}
use Rattle.std.proofs.lemmas.Cmp.{nat_list_cmp_total, tied_itself}
use Rattle.std.proofs.lemmas.Map.Text.{is_eq-slice_cmp}
use Rattle.std.proofs.lemmas.Slice.Eq.{bytes_eq-Decides}
use Rattle.json.specs.Find as tree
use Rattle.json.specs.Lex.{tokens}
use Rattle.json.specs.Find.{later_or}
use Rattle.json.specs.Json.{Json, null, boolean, number, string, array, object, Items, no_items, item, Members, no_members, member, if_last}
use Rattle.json.specs.Json as json
use Rattle.json.specs.Token.{Token}
use Rattle.json.specs.Value.{items_view, members_view, value_view}
use Rattle.json.specs.declared.value.Value.{Value}
use Rattle.serde_json.specs.Data as value
use Rattle.serde_json.specs.Data.{Data, Num, depth, float, negative, put}
use Rattle.serde_json.proofs.Nesting.{depth-read}
use Rattle.fast_float.specs.Text.{Parts, digits_of, nearest, with_sign}
use Rattle.serde_json.specs.Find.{as_u64, get, get_member}
use Rattle.serde_json.specs.Read.{is_integer, max_depth, number_from, number_of, of_items, of_json, of_members, read}
use Rattle.esm_ddb.specs.Event.{event_elements, object_elements, read_elements}
use Rattle.esm_model.specs.State.{places}
use Rattle.esm_ddb.specs.Gives.{Gives}
use Rattle.esm_ddb.specs.Turned.{turned_object, turned_value}
use Rattle.esm_ddb.specs.declared.elements.Element.{Element}
use Rattle.esm_ddb.specs.declared.error.Refusal.{Refusal}
use Rattle.esm_ddb.specs.declared.error.Refusal.TheVariants as refusal
use Rattle.esm_ddb.specs.declared.source.Source.{Source}
use Rattle.esm_ddb.specs.Tree.{data_in, items_in, members_in, is_before, is_first, follows, goes_on, is_ordered, are_ordered, is_in_order, is_ranged, are_ranged, members_ranged, tree_of, whole_tree}
use Rattle.esm_ddb.specs.declared.error.DdbError.{DdbError}
use Rattle.esm_ddb.specs.declared.error.DdbError.TheVariants.{NotJson}
use Rattle.esm_ddb.proofs.Loops.{next}

-- ---- names

lt_is : (o : Ordering) → is_lt o ≡ true → o ≡ Less
lt_is Less h = refl
lt_is Equal h = absurd (cc)
lt_is Greater h = absurd (cc)

before_is : (k l : List ℕ) → is_before k l ≡ true → slice_cmp nat_cmp k l ≡ Less
before_is k l h = lt_is (slice_cmp nat_cmp k l) h

after_is : (k l : List ℕ) → slice_cmp nat_cmp k l ≡ Less → slice_cmp nat_cmp l k ≡ Greater
after_is k l h = nat_list_cmp_total.antisymm l k ∙ ap ordering_reverse h

less_before : (o : Ordering) → o ≡ Less → is_lt o ≡ true
less_before o h = ap is_lt h

apart : (k l : List ℕ) → slice_cmp nat_cmp k l ≡ Less → bytes_eq l k ≡ false
apart k l h = sym (is_eq-slice_cmp l k) ∙ ap is_eq (after_is k l h)

first_after : (k l : List ℕ) (ms : Members) → is_before k l ≡ true → is_first l ms ≡ true → is_first k ms ≡ true
first_after k l no_members h e = refl
first_after k l (member m j ms) h e = less_before (slice_cmp nat_cmp k m) (nat_list_cmp_total.trans k l m (before_is k l h) (before_is l m e))

-- ---- what a tree stands for

abbrev join : value.Members → value.Members → value.Members
join value.no_members more = more
join (value.member k d ms) more = value.member k d (join ms more)

join_nil : (found : value.Members) → found ≡ join found value.no_members
join_nil value.no_members = refl
join_nil (value.member k d ms) = ap (value.member k d) (join_nil ms)

join_one : (found : value.Members) (k : List ℕ) (d : Data) (more : value.Members) → join (join found (value.member k d value.no_members)) more ≡ join found (value.member k d more)
join_one value.no_members k d more = refl
join_one (value.member l e ms) k d more = ap (value.member l e) (join_one ms k d more)

-- each of these names stands before k
abbrev AllBefore : List ℕ → value.Members → Type 0
AllBefore k value.no_members = ⊤
AllBefore k (value.member l d ms) = (slice_cmp nat_cmp l k ≡ Less) × AllBefore k ms

put_end : (k : List ℕ) (d : Data) (found : value.Members) → AllBefore k found → put k d found ≡ join found (value.member k d value.no_members)
put_end k d value.no_members h = refl
put_end k d (value.member l e ms) h =
    let above : slice_cmp nat_cmp k l ≡ Greater = after_is l k h.0 in
    rw above (ap (value.member l e) (put_end k d ms h.1))

all_before : (k l : List ℕ) (d : Data) (found : value.Members) → AllBefore k found → slice_cmp nat_cmp k l ≡ Less → AllBefore l (join found (value.member k d value.no_members))
all_before k l d value.no_members h less = (less, tt)
all_before k l d (value.member m e ms) h less = (nat_list_cmp_total.trans m k l h.0 less, all_before k l d ms h.1 less)

-- the members go on behind those that were found
abbrev GoesOn : value.Members → Members → Type 0
GoesOn found no_members = ⊤
GoesOn found (member k j ms) = AllBefore k found

begins : (ms : Members) → GoesOn value.no_members ms
begins no_members = tt
begins (member k j ms) = tt

goes_further : (found : value.Members) (k : List ℕ) (d : Data) (ms : Members) → AllBefore k found → is_first k ms ≡ true → GoesOn (join found (value.member k d value.no_members)) ms
goes_further found k d no_members h e = tt
goes_further found k d (member l j ms) h e = all_before k l d found h (before_is k l e)

number_by : (o : Option Num) (n : Num) → is_some o ≡ true → option_map value.number o ≡ Some (value.number (unwrap_or o n))
number_by None n h = absurd (true≢false (sym h))
number_by (Some m) n h = refl

mutual
  pub ordered_data : (j : Json) → is_ordered j ≡ true → of_json j ≡ Some (data_in j)
  ordered_data null h = refl
  ordered_data (boolean b) h = refl
  ordered_data (number s) h = number_by (number_of s) _ h
  ordered_data (string s) h = refl
  ordered_data (array js) h = ap (option_map value.array) (ordered_items js h)
  ordered_data (object ms) h = ap (option_map value.object) (ordered_members ms value.no_members (begins ms) h)

  ordered_items : (js : Items) → are_ordered js ≡ true → of_items js ≡ Some (items_in js)
  ordered_items no_items h = refl
  ordered_items (item j js) h =
      let p = and_parts (is_ordered j) (are_ordered js) h in
      ap (λ (o : Option Data). option_and_then (λ d. option_map (value.item d) (of_items js)) o) (ordered_data j p.0)
      ∙ ap (option_map (value.item (data_in j))) (ordered_items js p.1)

  ordered_members : (ms : Members) (found : value.Members) → GoesOn found ms → is_in_order ms ≡ true → of_members ms found ≡ Some (join found (members_in ms))
  ordered_members no_members found h e = ap Some (join_nil found)
  ordered_members (member k j ms) found h e =
      let p = and_parts (is_first k ms) (is_ordered j && is_in_order ms) e in
      let q = and_parts (is_ordered j) (is_in_order ms) p.1 in
      let d = data_in j in
      ap (λ (o : Option Data). option_and_then (λ x. of_members ms (put k x found)) o) (ordered_data j q.0)
      ∙ ap (of_members ms) (put_end k d found h)
      ∙ ordered_members ms (join found (value.member k d value.no_members)) (goes_further found k d ms h p.0) q.1
      ∙ ap Some (join_one found k d (members_in ms))

-- ---- look-ups

absent : (k : List ℕ) (ms : Members) → is_first k ms ≡ true → is_in_order ms ≡ true → tree.get_member k ms ≡ None
absent k no_members h e = refl
absent k (member l j ms) h e =
    let p = and_parts (is_first l ms) (is_ordered j && is_in_order ms) e in
    let q = and_parts (is_ordered j) (is_in_order ms) p.1 in
    let other = apart k l (before_is k l h) in
    let later = absent k ms (first_after k l ms h p.0) q.1 in
    rw (later, other) refl

later_none : (o : Option Json) → later_or o None ≡ o
later_none None = refl
later_none (Some j) = refl

skipped : (o : Ordering) (r s : Option Data) → is_eq o ≡ false → match_ordering o r s r ≡ r
skipped Less r s h = refl
skipped Equal r s h = absurd (true≢false h)
skipped Greater r s h = refl

get_at : (b : Bool) (name k : List ℕ) (j : Json) (ms : Members) → bytes_eq k name ≡ b → is_first k ms ≡ true → is_in_order ms ≡ true
    → get_member name (members_in ms) ≡ option_map data_in (tree.get_member name ms)
    → match_ordering (slice_cmp nat_cmp name k) (get_member name (members_in ms)) (Some (data_in j)) (get_member name (members_in ms))
    ≡ option_map data_in (later_or (tree.get_member name ms) (cond b (Some j) None))
get_at true name k j ms is first order more =
    let same : k ≡ name = (bytes_eq-Decides k name).0 is in
    let tied : slice_cmp nat_cmp name k ≡ Equal = ap (slice_cmp nat_cmp name) same ∙ tied_itself nat_list_cmp_total name in
    let none : tree.get_member name ms ≡ None = ap (λ n. tree.get_member n ms) (sym same) ∙ absent k ms first order in
    rw (tied, none) refl
get_at false name k j ms is first order more =
    let other : is_eq (slice_cmp nat_cmp name k) ≡ false = is_eq-slice_cmp name k ∙ unequal (bytes_eq name k) refl in
    skipped (slice_cmp nat_cmp name k) (get_member name (members_in ms)) (Some (data_in j)) other ∙ more ∙ ap (option_map data_in) (sym (later_none (tree.get_member name ms)))
  where
    unequal : (c : Bool) → bytes_eq name k ≡ c → bytes_eq name k ≡ false
    unequal true e = absurd (true≢false (sym ((bytes_eq-Decides k name).1 (sym ((bytes_eq-Decides name k).0 e))) ∙ is))
    unequal false e = e

get_members : (name : List ℕ) (ms : Members) → is_in_order ms ≡ true → get_member name (members_in ms) ≡ option_map data_in (tree.get_member name ms)
get_members name no_members e = refl
get_members name (member k j ms) e =
    let p = and_parts (is_first k ms) (is_ordered j && is_in_order ms) e in
    let q = and_parts (is_ordered j) (is_in_order ms) p.1 in
    get_at (bytes_eq k name) name k j ms refl p.0 q.1 (get_members name ms q.1)

get_data : (name : List ℕ) (j : Json) → is_ordered j ≡ true → get name (data_in j) ≡ option_map data_in (tree.get name j)
get_data name null h = refl
get_data name (boolean b) h = refl
get_data name (number s) h = refl
get_data name (string s) h = refl
get_data name (array js) h = refl
get_data name (object ms) h = get_members name ms h

abbrev AllOrdered : Option Json → Type 0
AllOrdered None = ⊤
AllOrdered (Some j) = is_ordered j ≡ true

later_ordered : (o : Option Json) (b : Bool) (j : Json) → AllOrdered o → is_ordered j ≡ true → AllOrdered (later_or o (cond b (Some j) None))
later_ordered (Some i) b j h e = h
later_ordered None true j h e = e
later_ordered None false j h e = tt

members_ordered : (name : List ℕ) (ms : Members) → is_in_order ms ≡ true → AllOrdered (tree.get_member name ms)
members_ordered name no_members e = tt
members_ordered name (member k j ms) e =
    let p = and_parts (is_first k ms) (is_ordered j && is_in_order ms) e in
    let q = and_parts (is_ordered j) (is_in_order ms) p.1 in
    later_ordered (tree.get_member name ms) (bytes_eq k name) j (members_ordered name ms q.1) q.0

found_ordered : (name : List ℕ) (j : Json) → is_ordered j ≡ true → AllOrdered (tree.get name j)
found_ordered name null h = tt
found_ordered name (boolean b) h = tt
found_ordered name (number s) h = tt
found_ordered name (string s) h = tt
found_ordered name (array js) h = tt
found_ordered name (object ms) h = members_ordered name ms h

viewed : (r : Option (Bor (Value Global))) → option_map (λ v. data_in (value_view v.now)) r ≡ option_map data_in (option_map (λ v. value_view v.now) r)
viewed None = refl
viewed (Some v) = refl

pub member_found : (name : List ℕ) (v : Value Global) (r : Option (Bor (Value Global))) → is_ordered (value_view v) ≡ true → option_map (λ v. value_view v.now) r ≡ tree.get name (value_view v)
    → option_map (λ v. data_in (value_view v.now)) r ≡ get name (data_in (value_view v))
member_found name v r h e = viewed r ∙ ap (option_map data_in) e ∙ sym (get_data name (value_view v) h)

some_ordered : (r : Option (Bor (Value Global))) → AllOrdered (option_map (λ v. value_view v.now) r) → IfSome r (λ v. is_ordered (value_view v.now) ≡ true)
some_ordered None h = tt
some_ordered (Some v) h = h

pub member_ordered : (name : List ℕ) (v : Value Global) (r : Option (Bor (Value Global))) → is_ordered (value_view v) ≡ true → option_map (λ v. value_view v.now) r ≡ tree.get name (value_view v)
    → IfSome r (λ v. is_ordered (value_view v.now) ≡ true)
member_ordered name v r h e = some_ordered r (subst AllOrdered (sym e) (found_ordered name (value_view v) h))

-- ---- numbers

no_unsigned_by : (a b : Bool) (z : ℤ) (x : Float) → option_and_then as_u64 (cond a (Some (negative z)) (cond b (Some (float x)) None)) ≡ None
no_unsigned_by true b z x = refl
no_unsigned_by false true z x = refl
no_unsigned_by false false z x = refl

-- a number with a minus is no whole number from 0
pub no_unsigned : (p : Parts) → option_and_then as_u64 (number_from true p) ≡ None
no_unsigned p = no_unsigned_by (is_integer p && nat_lt 0 (digits_of p) && nat_le (digits_of p) (2 ^ 63)) (float_is_finite (nearest binary64 true p)) (with_sign true (digits_of p)) (nearest binary64 true p)

-- ---- the whole text

whole_by : (o : Option Json) (j : Json) → ok_or o NotJson ≡ Ok j → o ≡ Some j
whole_by None j e = absurd (cc)
whole_by (Some i) j e = cc

pub whole_tree_is : (ts : List Token) (j : Json) → tree_of ts ≡ Ok j → whole_tree ts ≡ Some j
whole_tree_is ts j e = whole_by (whole_tree ts) j e

none_by : (o : Option Json) (why : DdbError) → ok_or o NotJson ≡ Err why → (o ≡ None) × (why ≡ NotJson)
none_by None why e = (refl, cc)
none_by (Some j) why e = absurd (cc)

pub no_tree : (ts : List Token) (why : DdbError) → tree_of ts ≡ Err why → (whole_tree ts ≡ None) × (why ≡ NotJson)
no_tree ts why e = none_by (whole_tree ts) why e

whole_is : (text : List ℕ) (ts : List Token) (j : Json) → ts ≡ tokens text → tree_of ts ≡ Ok j → whole_tree (tokens text) ≡ Some j
whole_is text ts j same is = ap whole_tree (sym same) ∙ whole_tree_is ts j is

none_is : (text : List ℕ) (ts : List Token) (why : DdbError) → ts ≡ tokens text → tree_of ts ≡ Err why → read text ≡ None
none_is text ts why same is = ap (λ (o : Option Json). option_and_then of_json o) (ap whole_tree (sym same) ∙ (no_tree ts why is).0)

reads_ordered : (text : List ℕ) (ts : List Token) (j : Json) → ts ≡ tokens text → tree_of ts ≡ Ok j → is_ordered j ≡ true → read text ≡ Some (data_in j)
reads_ordered text ts j same is order = ap (λ (o : Option Json). option_and_then of_json o) (whole_is text ts j same is) ∙ ordered_data j order

-- what a text becomes whose tree is in order
pub gives_tree : {A : Type 0} (f : A → List ℕ) (s : Source) (text : List ℕ) (ts : List Token) (j : Json) (r : Result A Refusal) → ts ≡ tokens text → tree_of ts ≡ Ok j → is_ordered j ≡ true
    → Gives f r (turned_value s (Some (data_in j))) → Gives f r (turned_value s (read text))
gives_tree f s text ts j r same is order gives = subst (λ (o : Option Data). Gives f r (turned_value s o)) (sym (reads_ordered text ts j same is order)) gives

-- of a text that is no tree
pub gives_none : {A B : Type 0} (f : A → List ℕ) (g : B → Json) (s : Source) (text : List ℕ) (ts : List Token) (e : Refusal) → ts ≡ tokens text → Gives g (Err e) (tree_of ts)
    → Gives f (Err e) (turned_value s (read text))
gives_none f g s text ts refusal.OutOfMemory same is = tt
gives_none f g s text ts (refusal.Line why) same is = ap (turned_value s) (none_is text ts why same is) ∙ ap Err (sym (no_tree ts why is).1)

-- what a text becomes is what a text of the same value does
pub gives_again : {A : Type 0} (f : A → List ℕ) (s : Source) (text again : List ℕ) (d : Data) (r : Result A Refusal) → Some d ≡ read text → (depth d ≤ max_depth → read again ≡ Some d)
    → Gives f r (turned_value s (read again)) → Gives f r (turned_value s (read text))
gives_again f s text again d r is back gives = subst (λ (o : Option Data). Gives f r (turned_value s o)) (back (depth-read text d (sym is)) ∙ is) gives

pub gives_line : {A : Type 0} (f : A → List ℕ) (s : Source) (line text : List ℕ) (r : Result A Refusal) → is_utf8 line ≡ true → text ≡ line
    → Gives f r (turned_value s (read text)) → Gives f r (turned_object s line)
gives_line f s line text r utf8 same gives =
    subst (λ (x : Result (List ℕ) DdbError). Gives f r x) (ap (λ (t : List ℕ). turned_value s (read t)) same ∙ ap (λ (b : Bool). turned_value s (cond b (read line) None)) (sym utf8)) gives

no_text_by : (s : Source) (b : Bool) (o : Option Data) → (b ≡ true → ⊥) → turned_value s (cond b o None) ≡ Err NotJson
no_text_by s true o h = absurd (h refl)
no_text_by s false o h = refl

pub no_text : (s : Source) (line : List ℕ) → (is_utf8 line ≡ true → ⊥) → turned_object s line ≡ Err NotJson
no_text s line h = no_text_by s (is_utf8 line) (read line) h

-- the elements of bytes that are this text
pub event_found : (event text : List ℕ) → is_utf8 event ≡ true → text ≡ event → cond (is_some (read text)) (read_elements text) None ≡ event_elements event
event_found event text utf8 same =
    ap (λ (t : List ℕ). cond (is_some (read t)) (read_elements t) None) same ∙ ap (λ (b : Bool). cond (is_some (cond b (read event) None)) (read_elements event) None) (sym utf8)

-- ---- texts whose numbers are in range

some_map : {A B : Type 0} (f : A → B) (o : Option A) → is_some (option_map f o) ≡ is_some o
some_map f None = refl
some_map f (Some x) = refl

some_then : {A B : Type 0} (f : A → Option B) (o : Option A) (b : Bool) → ((x : A) → is_some (f x) ≡ b) → is_some (option_and_then f o) ≡ (is_some o && b)
some_then f None b each = refl
some_then f (Some x) b each = each x

mutual
  pub ranged_data : (j : Json) → is_some (of_json j) ≡ is_ranged j
  ranged_data null = refl
  ranged_data (boolean b) = refl
  ranged_data (number s) = some_map value.number (number_of s)
  ranged_data (string s) = refl
  ranged_data (array js) = some_map value.array (of_items js) ∙ ranged_items js
  ranged_data (object ms) = some_map value.object (of_members ms value.no_members) ∙ ranged_members ms value.no_members

  ranged_items : (js : Items) → is_some (of_items js) ≡ are_ranged js
  ranged_items no_items = refl
  ranged_items (item j js) =
      some_then (λ d. option_map (value.item d) (of_items js)) (of_json j) (are_ranged js) (λ d. some_map (value.item d) (of_items js) ∙ ranged_items js)
      ∙ ap (λ b. b && are_ranged js) (ranged_data j)

  ranged_members : (ms : Members) (found : value.Members) → is_some (of_members ms found) ≡ members_ranged ms
  ranged_members no_members found = refl
  ranged_members (member k j ms) found =
      some_then (λ d. of_members ms (put k d found)) (of_json j) (members_ranged ms) (λ d. ranged_members ms (put k d found))
      ∙ ap (λ b. b && members_ranged ms) (ranged_data j)

last_is : (o : Option (Json × List Token)) (j : Json) → option_and_then (λ p. if_last p.0 p.1) o ≡ Some j → option_map (λ (p : Json × List Token). p.0) o ≡ Some j
last_is None j e = absurd (cc)
last_is (Some (i, [])) j e = e
last_is (Some (i, t ∷ ts)) j e = absurd (cc)

-- the elements of a text that is this tree
pub elements_in : (text : List ℕ) (ts : List Token) (j : Json) → ts ≡ tokens text → tree_of ts ≡ Ok j
    → cond (is_ranged j) (object_elements (places [] text) j) None ≡ cond (is_some (read text)) (read_elements text) None
elements_in text ts j same is =
    let whole = whole_is text ts j same is in
    let ranged : is_some (read text) ≡ is_ranged j = ap (λ (o : Option Json). is_some (option_and_then of_json o)) whole ∙ ranged_data j in
    let found : read_elements text ≡ object_elements (places [] text) j = ap (λ (o : Option Json). option_and_then (object_elements (places [] text)) o) (last_is (json.value max_depth (tokens text)) j whole) in
    sym (ap (λ b. cond b (read_elements text) None) ranged ∙ ap (λ (o : Option (List Element)). cond (is_ranged j) o None) found)

-- of a text that is none
pub no_elements_in : (text : List ℕ) (ts : List Token) (why : DdbError) → ts ≡ tokens text → tree_of ts ≡ Err why → None ≡ cond (is_some (read text)) (read_elements text) None
no_elements_in text ts why same is = sym (ap (λ (o : Option Data). cond (is_some o) (read_elements text) None) (none_is text ts why same is))

pub good_ranged : (vs : List (Value Global)) (i : ℕ) (v : Value Global) → i < length vs → v ≡ get_or vs i v → is_ranged (value_view v) ≡ true
    → are_ranged (items_view (drop i vs)) ≡ are_ranged (items_view (drop (i + 1) vs))
good_ranged vs i v within is e =
    ap (λ (ws : List (Value Global)). are_ranged (items_view ws)) (next vs i v within is) ∙ ap (λ b. b && are_ranged (items_view (drop (i + 1) vs))) e

pub bad_ranged : (vs : List (Value Global)) (i : ℕ) (v : Value Global) → i < length vs → v ≡ get_or vs i v → is_ranged (value_view v) ≡ false
    → are_ranged (items_view (drop i vs)) ≡ false
bad_ranged vs i v within is e =
    ap (λ (ws : List (Value Global)). are_ranged (items_view ws)) (next vs i v within is) ∙ ap (λ b. b && are_ranged (items_view (drop (i + 1) vs))) e

pub good_member_range : (vs : List (Bor (List ℕ) × Value Global)) (i : ℕ) (v : Bor (List ℕ) × Value Global) → i < length vs → v ≡ get_or vs i v → is_ranged (value_view v.1) ≡ true
    → members_ranged (members_view (drop i vs)) ≡ members_ranged (members_view (drop (i + 1) vs))
good_member_range vs i v within is e =
    ap (λ (ws : List (Bor (List ℕ) × Value Global)). members_ranged (members_view ws)) (next vs i v within is) ∙ ap (λ b. b && members_ranged (members_view (drop (i + 1) vs))) e

pub bad_member_range : (vs : List (Bor (List ℕ) × Value Global)) (i : ℕ) (v : Bor (List ℕ) × Value Global) → i < length vs → v ≡ get_or vs i v → is_ranged (value_view v.1) ≡ false
    → members_ranged (members_view (drop i vs)) ≡ false
bad_member_range vs i v within is e =
    ap (λ (ws : List (Bor (List ℕ) × Value Global)). members_ranged (members_view ws)) (next vs i v within is) ∙ ap (λ b. b && members_ranged (members_view (drop (i + 1) vs))) e

-- ---- the loops

pub good_ordered : (vs : List (Value Global)) (i : ℕ) (v : Value Global) → i < length vs → v ≡ get_or vs i v → is_ordered (value_view v) ≡ true
    → are_ordered (items_view (drop i vs)) ≡ are_ordered (items_view (drop (i + 1) vs))
good_ordered vs i v within is e =
    ap (λ (ws : List (Value Global)). are_ordered (items_view ws)) (next vs i v within is) ∙ ap (λ b. b && are_ordered (items_view (drop (i + 1) vs))) e

pub bad_ordered : (vs : List (Value Global)) (i : ℕ) (v : Value Global) → i < length vs → v ≡ get_or vs i v → is_ordered (value_view v) ≡ false
    → are_ordered (items_view (drop i vs)) ≡ false
bad_ordered vs i v within is e =
    ap (λ (ws : List (Value Global)). are_ordered (items_view ws)) (next vs i v within is) ∙ ap (λ b. b && are_ordered (items_view (drop (i + 1) vs))) e

abbrev rest_ordered : Option (List ℕ) → Members → Bool
rest_ordered before ms = goes_on before ms && is_in_order ms

follows_is : (before : Option (List ℕ)) (k : List ℕ) (j : Json) (ms : Members) → goes_on before (member k j ms) ≡ follows before k
follows_is None k j ms = refl
follows_is (Some l) k j ms = refl

member_step : (before : Option (List ℕ)) (k : List ℕ) (j : Json) (ms : Members) → follows before k ≡ true → is_ordered j ≡ true
    → rest_ordered before (member k j ms) ≡ rest_ordered (Some k) ms
member_step before k j ms h e = rw (follows_is before k j ms ∙ h, e) refl

name_stop : (before : Option (List ℕ)) (k : List ℕ) (j : Json) (ms : Members) → follows before k ≡ false → rest_ordered before (member k j ms) ≡ false
name_stop before k j ms h = rw (follows_is before k j ms ∙ h) refl

tree_stop : (before : Option (List ℕ)) (k : List ℕ) (j : Json) (ms : Members) → is_ordered j ≡ false → rest_ordered before (member k j ms) ≡ false
tree_stop before k j ms h = rw h (stopped (goes_on before (member k j ms)) (is_first k ms))
  where
    stopped : (a b : Bool) → (a && (b && false)) ≡ false
    stopped true true = refl
    stopped true false = refl
    stopped false b = refl

pub good_place : (vs : List (Bor (List ℕ) × Value Global)) (i : ℕ) (v : Bor (List ℕ) × Value Global) (before : Option (List ℕ)) → i < length vs → v ≡ get_or vs i v → follows before v.0.now ≡ true → is_ordered (value_view v.1) ≡ true
    → rest_ordered before (members_view (drop i vs)) ≡ rest_ordered (Some v.0.now) (members_view (drop (i + 1) vs))
good_place vs i v before within is h e =
    ap (λ (ws : List (Bor (List ℕ) × Value Global)). rest_ordered before (members_view ws)) (next vs i v within is)
    ∙ member_step before v.0.now (value_view v.1) (members_view (drop (i + 1) vs)) h e

pub bad_name : (vs : List (Bor (List ℕ) × Value Global)) (i : ℕ) (v : Bor (List ℕ) × Value Global) (before : Option (List ℕ)) → i < length vs → v ≡ get_or vs i v → follows before v.0.now ≡ false
    → rest_ordered before (members_view (drop i vs)) ≡ false
bad_name vs i v before within is h =
    ap (λ (ws : List (Bor (List ℕ) × Value Global)). rest_ordered before (members_view ws)) (next vs i v within is)
    ∙ name_stop before v.0.now (value_view v.1) (members_view (drop (i + 1) vs)) h

pub bad_place : (vs : List (Bor (List ℕ) × Value Global)) (i : ℕ) (v : Bor (List ℕ) × Value Global) (before : Option (List ℕ)) → i < length vs → v ≡ get_or vs i v → is_ordered (value_view v.1) ≡ false
    → rest_ordered before (members_view (drop i vs)) ≡ false
bad_place vs i v before within is h =
    ap (λ (ws : List (Bor (List ℕ) × Value Global)). rest_ordered before (members_view ws)) (next vs i v within is)
    ∙ tree_stop before v.0.now (value_view v.1) (members_view (drop (i + 1) vs)) h
