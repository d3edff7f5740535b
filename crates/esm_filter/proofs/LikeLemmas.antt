-- What no pattern tells apart: where a name of the patterns sees the same, they pass alike.
use Rattle.std.proofs.Common.{◌≡◌, ℕ, List, [], ◌∷◌, filter, cond, if◌then◌else◌, Bool, true, false, true≢false, ◌&&◌, ◌||◌, Option, Some, None, codes, bytes_eq, refl, sym, ap, ap₂, ◌∙◌}
use Rattle.std.specs.List.{list_any}
use Rattle.std.proofs.lemmas.Slice.Eq.{bytes_eq-Decides}
use Rattle.serde_json.specs.Data.{Data, null, boolean, number, string, array, object, Items, Members, put}
use Rattle.serde_json.specs.Find.{get_member}
use Rattle.serde_json.proofs.Views.{get_member-put, get_member-put_other}
use Rattle.esm_model.specs.Filter.{Seen, plain, in_object, json_members, record_field, in_record, is_text_body, message_text, in_message, rule_passes, fields_pass, one_passes, patterns_pass}
use Rattle.esm_model.specs.Leaves.{is_leaf, leaves, some_passes, tests_pass}
use Rattle.esm_model.specs.Pattern.{Rule, tests, nested, one_of, Fields, no_fields, field, Choices, no_choices, choice}
use Rattle.esm_model.specs.Records.{Record}
use Rattle.esm_model.specs.declared.item.Message.{Message}
use Rattle.esm_filter.specs.Named.{named_by_rule, named_in, named_by_choices, is_named, Covers, Like, AreLike}

or_left : (a b : Bool) → a ≡ true → (a || b) ≡ true
or_left true b e = refl
or_left false b e = absurd (true≢false (sym e))

or_right : (a b : Bool) → b ≡ true → (a || b) ≡ true
or_right true b e = refl
or_right false b e = e

same_name : (k : List ℕ) → bytes_eq k k ≡ true
same_name k = (bytes_eq-Decides k k).1 refl

-- ---- what a field shows

-- no rule of these names tells them apart
record Shows (names : List ℕ → Bool) (a b : Seen) : Type 0 where
  leaves : a.leaves ≡ b.leaves
  members : (fs : Fields) → Covers names fs → some_passes (λ ms. fields_pass fs (in_object ms)) a.members ≡ some_passes (λ ms. fields_pass fs (in_object ms)) b.members

module _ (names : List ℕ → Bool) where
  mutual
    rule_alike : (r : Rule) (key : List ℕ) (a b : List ℕ → Seen) → names key ≡ true → ((k : List ℕ) → named_by_rule k r ≡ true → names k ≡ true)
        → ((k : List ℕ) → names k ≡ true → Shows names (a k) (b k)) → rule_passes r key a ≡ rule_passes r key b
    rule_alike (tests ts) key a b at covers shows = ap (some_passes (tests_pass ts)) (shows key at).leaves
    rule_alike (nested fs) key a b at covers shows = (shows key at).members fs covers
    rule_alike (one_of cs) key a b at covers shows = one_alike cs a b covers shows

    fields_alike : (fs : Fields) (a b : List ℕ → Seen) → Covers names fs → ((k : List ℕ) → names k ≡ true → Shows names (a k) (b k)) → fields_pass fs a ≡ fields_pass fs b
    fields_alike no_fields a b covers shows = refl
    fields_alike (field key r fs) a b covers shows =
        let at : names key ≡ true = covers key (or_left (bytes_eq key key || named_by_rule key r) (named_in key fs) (or_left (bytes_eq key key) (named_by_rule key r) (same_name key))) in
        ap₂ (λ x y. x && y)
        (rule_alike r key a b at (λ k e. covers k (or_left (bytes_eq k key || named_by_rule k r) (named_in k fs) (or_right (bytes_eq k key) (named_by_rule k r) e))) shows)
        (fields_alike fs a b (λ k e. covers k (or_right (bytes_eq k key || named_by_rule k r) (named_in k fs) e)) shows)

    one_alike : (cs : Choices) (a b : List ℕ → Seen) → ((k : List ℕ) → named_by_choices k cs ≡ true → names k ≡ true) → ((k : List ℕ) → names k ≡ true → Shows names (a k) (b k)) → one_passes cs a ≡ one_passes cs b
    one_alike no_choices a b covers shows = refl
    one_alike (choice fs cs) a b covers shows =
        ap₂ (λ x y. x || y)
        (fields_alike fs a b (λ k e. covers k (or_left (named_in k fs) (named_by_choices k cs) e)) shows)
        (one_alike cs a b (λ k e. covers k (or_right (named_in k fs) (named_by_choices k cs) e)) shows)

  plain_shows : (o p : Option Data) → Like names o p → Shows names (plain o) (plain p)
  plain_shows o p like = record { leaves = ap Some like.leaves; members = like.members }

  pub itself : (o : Option Data) → Like names o o
  itself o = record { leaves = refl; text = refl; some = refl; members = λ fs covers. refl }

  -- ---- values

  pub like_objects : (ms ns : Members) → AreLike names ms ns → Like names (Some (object ms)) (Some (object ns))
  like_objects ms ns are = record {
    leaves = refl;
    text = refl;
    some = refl;
    members = λ fs covers. fields_alike fs (in_object ms) (in_object ns) covers (λ k e. plain_shows (get_member k ms) (get_member k ns) (are k e));
  }

  pub like_arrays : (ds es : Items) → leaves (Some (array ds)) ≡ leaves (Some (array es)) → Like names (Some (array ds)) (Some (array es))
  like_arrays ds es same = record { leaves = same; text = refl; some = refl; members = λ fs covers. refl }

  -- ---- the members of an object, one after another

  abbrev pub members_like : Bool → Members → Members → Type 0
  members_like kept ms ns = kept ≡ true → AreLike names ms ns

  -- what is found at each name once e is at this one
  abbrev pub Puts : List ℕ → Data → Members → Members → Type 0
  Puts name e old new = (k : List ℕ) → get_member k new ≡ cond (bytes_eq k name) (Some e) (get_member k old)

  module _ (kept : Bool) (name : List ℕ) (d e : Data) (ms old new : Members) (were : members_like kept ms old) where
    at_name : (k : List ℕ) → k ≡ name → get_member k new ≡ Some e → Like names (Some d) (Some e) → Like names (get_member k (put name d ms)) (get_member k new)
    at_name k is there like =
        let here : get_member k (put name d ms) ≡ Some d = ap (λ (q : List ℕ). get_member q (put name d ms)) is ∙ get_member-put name d ms in
        rw (here, there) like

    elsewhere : (k : List ℕ) → bytes_eq k name ≡ false → get_member k new ≡ get_member k old → Like names (get_member k ms) (get_member k old) → Like names (get_member k (put name d ms)) (get_member k new)
    elsewhere k is still like =
        let other = λ (here : k ≡ name). true≢false (sym ((bytes_eq-Decides k name).1 here) ∙ is) in
        rw (get_member-put_other k name d ms other, still) like

    by_name : (k : List ℕ) (b same : Bool) → b ≡ (kept && names name) → (b ≡ true → Like names (Some d) (Some e)) → (b ≡ true → Puts name e old new) → (b ≡ false → new ≡ old)
        → bytes_eq k name ≡ same → kept ≡ true → names k ≡ true → Like names (get_member k (put name d ms)) (get_member k new)
    by_name k b true wanted like puts passed is keeps named =
        let here : k ≡ name = (bytes_eq-Decides k name).0 is in
        let both : b ≡ true = wanted ∙ ap₂ (λ x y. x && y) keeps (ap names (sym here) ∙ named) in
        at_name k here (puts both k ∙ ap (λ (c : Bool). cond c (Some e) (get_member k old)) is) (like both)
    by_name k true false wanted like puts passed is keeps named =
        elsewhere k is (puts refl k ∙ ap (λ (c : Bool). cond c (Some e) (get_member k old)) is) (were keeps k named)
    by_name k false false wanted like puts passed is keeps named =
        elsewhere k is (ap (get_member k) (passed refl)) (were keeps k named)

    pub next_member : (b : Bool) → b ≡ (kept && names name) → (b ≡ true → Like names (Some d) (Some e)) → (b ≡ true → Puts name e old new) → (b ≡ false → new ≡ old) → members_like kept (put name d ms) new
    next_member b wanted like puts passed keeps k named = by_name k b (bytes_eq k name) wanted like puts passed refl keeps named

  -- ---- documents

  json_shows : (o p : Option Data) → Like names o p → (fs : Fields) → Covers names fs → some_passes (λ ms. fields_pass fs (in_object ms)) (json_members o) ≡ some_passes (λ ms. fields_pass fs (in_object ms)) (json_members p)
  json_shows None None like fs covers = refl
  json_shows None (Some e) like fs covers = absurd (true≢false (sym like.some))
  json_shows (Some d) None like fs covers = absurd (true≢false like.some)
  json_shows (Some d) (Some e) like fs covers = like.members fs covers

  record_at : (r : Record) (o p : Option Data) → Like names o p → (k : List ℕ) (b : Bool)
      → Shows names (if b then record { leaves = None; members = json_members o } else plain (record_field r k)) (if b then record { leaves = None; members = json_members p } else plain (record_field r k))
  record_at r o p like k true = record { leaves = refl; members = json_shows o p like }
  record_at r o p like k false = plain_shows (record_field r k) (record_field r k) (itself (record_field r k))

  body_leaves : Message → Option Data → Option (List Data)
  body_leaves m o = if is_text_body o then Some (string m.body ∷ []) else None

  message_at : (m : Message) (o p : Option Data) → Like names o p → (k : List ℕ) (b : Bool)
      → Shows names (if b then record { leaves = if is_text_body o then Some (string m.body ∷ []) else None; members = json_members o } else plain (message_text m k))
      (if b then record { leaves = if is_text_body p then Some (string m.body ∷ []) else None; members = json_members p } else plain (message_text m k))
  message_at m o p like k true = record { leaves = ap (λ b. if b then Some (string m.body ∷ []) else None) like.text; members = json_shows o p like }
  message_at m o p like k false = plain_shows (message_text m k) (message_text m k) (itself (message_text m k))

  any_alike : (ps : List Fields) (a b : List ℕ → Seen) → ((k : List ℕ) → is_named ps k ≡ true → names k ≡ true) → ((k : List ℕ) → names k ≡ true → Shows names (a k) (b k))
      → list_any (λ fs. fields_pass fs a) ps ≡ list_any (λ fs. fields_pass fs b) ps
  any_alike [] a b covers shows = refl
  any_alike (p ∷ ps) a b covers shows =
      ap₂ (λ x y. x || y)
      (fields_alike p a b (λ k e. covers k (or_left (named_in k p) (is_named ps k) e)) shows)
      (any_alike ps a b (λ k e. covers k (or_right (named_in k p) (is_named ps k) e)) shows)

patterns_alike : (ps : List Fields) (a b : List ℕ → Seen) → ((k : List ℕ) → is_named ps k ≡ true → Shows (is_named ps) (a k) (b k)) → patterns_pass ps a ≡ patterns_pass ps b
patterns_alike [] a b shows = refl
patterns_alike (p ∷ ps) a b shows = any_alike (is_named (p ∷ ps)) (p ∷ ps) a b (λ k e. e) shows

pub records_alike : (ps : List Fields) (r : Record) (o p : Option Data) → Like (is_named ps) o p → patterns_pass ps (in_record r o) ≡ patterns_pass ps (in_record r p)
records_alike ps r o p like = patterns_alike ps (in_record r o) (in_record r p) (λ k e. record_at (is_named ps) r o p like k (bytes_eq k (codes "data")))

pub messages_alike : (ps : List Fields) (m : Message) (o p : Option Data) → Like (is_named ps) o p → patterns_pass ps (in_message m o) ≡ patterns_pass ps (in_message m p)
messages_alike ps m o p like = patterns_alike ps (in_message m o) (in_message m p) (λ k e. message_at (is_named ps) m o p like k (bytes_eq k (codes "body")))

-- ---- the leaves of a list, an item at a time

alone_leaf : (d : Data) → filter is_leaf (d ∷ []) ≡ (if is_leaf d then leaves (Some d) else [])
alone_leaf null = refl
alone_leaf (boolean b) = refl
alone_leaf (number n) = refl
alone_leaf (string s) = refl
alone_leaf (array ds) = refl
alone_leaf (object ms) = refl

pub same_leaf : (names : List ℕ → Bool) (d e : Data) → Like names (Some d) (Some e) → filter is_leaf (d ∷ []) ≡ filter is_leaf (e ∷ [])
same_leaf names d e like = alone_leaf d ∙ ap₂ (λ (b : Bool) (xs : List Data). if b then xs else []) like.text like.leaves ∙ sym (alone_leaf e)
