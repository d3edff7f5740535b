-- The list of mappings, as it is written one by one.
use Rattle.std.proofs.Common.{◌≡◌, ◌∙◌, ◌++◌, ℕ, List, [], ◌∷◌, Bool, true, false, map, codes, Bor, refl, sym, ap, append_assoc}
use Rattle.std.specs.List.{join_with_byte}
use Rattle.std.specs.Map.Iter.{deref}
use Rattle.serde_json.specs.Written.{comma_if}
use Rattle.esm_registry.specs.declared.mapping.Mapping.{Mapping}
use Rattle.esm_registry.specs.Texts.{mapping_text, list_text}

abbrev pub is_more : {A : Type 0} → List A → Bool
is_more [] = false
is_more (x ∷ xs) = true

abbrev pub opening : List ℕ
opening = codes "{\"EventSourceMappings\":["

-- the mappings so far are written, and it is known whether there is one
pub record HasWritten (text : List ℕ) (later : Bool) (seen : List (Bor Mapping)) : Type 0 where
  pub text_is : text ≡ opening ++ join_with_byte 44 (map (λ m. mapping_text m.now) seen)
  pub later_is : later ≡ is_more seen

join-push : (xs : List (List ℕ)) (x : List ℕ) → join_with_byte 44 (xs ++ x ∷ []) ≡ join_with_byte 44 xs ++ (comma_if (is_more xs) ++ x)
join-push [] x = refl
join-push (y ∷ []) x = refl
join-push (y ∷ z ∷ zs) x =
    ap (λ w. y ++ (44 ∷ w)) (join-push (z ∷ zs) x)
    ∙ sym (append_assoc y (44 ∷ join_with_byte 44 (z ∷ zs)) (44 ∷ x))

more-map : {A B : Type 0} (f : A → B) (xs : List A) → is_more (map f xs) ≡ is_more xs
more-map f [] = refl
more-map f (x ∷ xs) = refl

map-push : {A B : Type 0} (f : A → B) (xs : List A) (x : A) → map f (xs ++ x ∷ []) ≡ map f xs ++ f x ∷ []
map-push f [] x = refl
map-push f (y ∷ xs) x = ap (λ ys. f y ∷ ys) (map-push f xs x)

more-push : {A : Type 0} (xs : List A) (x : A) → true ≡ is_more (xs ++ x ∷ [])
more-push [] x = refl
more-push (y ∷ xs) x = refl

pub written_none : HasWritten opening false []
written_none = record { text_is = refl; later_is = refl }

pub written_more : (text text' : List ℕ) (later : Bool) (seen : List (Bor Mapping)) (m : Bor Mapping) → HasWritten text later seen
    → text' ≡ text ++ (comma_if later ++ mapping_text m.now) → HasWritten text' true (seen ++ m ∷ [])
written_more text text' later seen m written is =
    let texts = map (λ (x : Bor Mapping). mapping_text x.now) seen in
    record {
      text_is =
          is ∙ ap (λ t. t ++ (comma_if later ++ mapping_text m.now)) written.text_is
          ∙ append_assoc opening (join_with_byte 44 texts) (comma_if later ++ mapping_text m.now)
          ∙ ap (λ b. opening ++ (join_with_byte 44 texts ++ (comma_if b ++ mapping_text m.now))) (written.later_is ∙ sym (more-map (λ (x : Bor Mapping). mapping_text x.now) seen))
          ∙ ap (λ t. opening ++ t) (sym (join-push texts (mapping_text m.now)))
          ∙ ap (λ ts. opening ++ join_with_byte 44 ts) (sym (map-push (λ (x : Bor Mapping). mapping_text x.now) seen m));
      later_is = more-push seen m;
    }

map-map : (seen : List (Bor Mapping)) → map (λ m. mapping_text m.now) seen ≡ map mapping_text (map deref seen)
map-map [] = refl
map-map (m ∷ seen) = ap (λ ts. mapping_text m.now ∷ ts) (map-map seen)

pub written_all : (text : List ℕ) (later : Bool) (seen : List (Bor Mapping)) (list : List Mapping) → HasWritten text later seen → map deref seen ≡ list
    → text ++ codes "]}" ≡ list_text list
unfolding list_text
written_all text later seen list written all =
    ap (λ t. t ++ codes "]}") (written.text_is
    ∙ ap (λ ts. opening ++ join_with_byte 44 ts) (map-map seen ∙ ap (map mapping_text) all))
