-- The characters of a body that has no byte 0xEF.
use Rattle.std.proofs.Common.{◌≡◌, ℕ, ◌==◌, Bool, true, false, List, [], ◌∷◌, length, refl, sym, ap, ◌∙◌}
use Rattle.std.specs.Prelude.{◌&&◌, not}
use Rattle.std.specs.List.{list_all, AllByRecursion}
use Rattle.std.proofs.lemmas.List.Elements.{recursion_from_All}
use Rattle.memchr.specs.Find.{Nowhere, Passes, is_byte}
use Rattle.esm_model.specs.ValidMessage.{is_body_byte, ends_plane, has_body_chars}
use Rattle.esm_record.proofs.FirstLine.{has_no}

no_plane_end : (b : ℕ) (rest : List ℕ) → (b == 239) ≡ false → ends_plane (b ∷ rest) ≡ false
no_plane_end b [] other = refl
no_plane_end b (c ∷ []) other = refl
no_plane_end b (c ∷ d ∷ rest) other = rw other refl

and_true : (b : Bool) → (b && true) ≡ b
and_true true = refl
and_true false = refl

plain_chars : (text : List ℕ) → AllByRecursion (λ b. (b == 239) ≡ false) text → list_all is_body_byte text ≡ has_body_chars text
plain_chars [] all = refl
plain_chars (b ∷ rest) all =
    ap (λ (t : Bool). is_body_byte b && t) (plain_chars rest all.1)
    ∙ sym (ap (λ (e : Bool). is_body_byte b && not e && has_body_chars rest) (no_plane_end b rest all.0) ∙ ap (λ (t : Bool). t && has_body_chars rest) (and_true (is_body_byte b)))

pub plain_body : (text : List ℕ) → Nowhere (Passes (is_byte 239) text) 0 (length text) → list_all is_body_byte text ≡ has_body_chars text
plain_body text none = plain_chars text (recursion_from_All (λ b. (b == 239) ≡ false) text (has_no 239 text none))
