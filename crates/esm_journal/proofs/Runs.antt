-- How runs of device calls go on.
use Rattle.std.proofs.Common.{◌≡◌, ℕ, true, List, arith, refl, ◌∙◌}
use Rattle.esm_io.specs.Meanings.{DiskMeaning}
use Rattle.esm_io.proofs.Leaving.{started, goes_on}
use Rattle.esm_journal.specs.Reads.{IsOnlyRead, RefusedFor}
use Rattle.esm_journal.specs.declared.error.OpenError.{OpenError}
use Rattle.esm_journal.specs.declared.error.OpenError.TheVariants.{NotAJournal, Damaged, DiskFault, OutOfMemory}

module _ {D : Type 0} (m : DiskMeaning D) where
  abbrev pub Reads : D → D → Type 0
  Reads old new = IsOnlyRead m old new

  -- no call
  pub still : ((disk : D) (left : List ℕ) → m.honest disk ≡ true → m.since disk (m.moment disk) left → m.image disk left) → (disk : D) → Reads disk disk
  still only_now disk = record {
    honesty = refl;
    same = λ h. refl;
    images = λ h left now. now;
    any_moment = λ h. started m.moment m.since disk (m.image disk) (λ left was. only_now disk left h was);
    never_falls = omega arith;
    greatest = λ le. le;
  }

  -- calls after calls
  pub reads_on : (old mid new : D) → Reads old mid → Reads mid new → Reads old new
  reads_on old mid new first second = record {
    honesty = second.honesty ∙ first.honesty;
    same = λ h. second.same (first.honesty ∙ h) ∙ first.same h;
    images = λ h left now. first.images h left (second.images (first.honesty ∙ h) left now);
    any_moment = λ h. goes_on m.moment m.since old mid new (m.image old) (m.image mid) (m.image old) (first.any_moment h) (second.any_moment (first.honesty ∙ h)) (λ left now. now) (λ left now. first.images h left now);
    never_falls = omega (arith, first.never_falls, second.never_falls);
    greatest = λ le. second.greatest (first.greatest le);
  }

-- the same refusal, of which less is said
pub refused_more : (F G : List ℕ → Type 0) (P Q : ℕ → Type 0) (A B : Type 0) (e : OpenError) → RefusedFor F P A e → ((first : List ℕ) → F first → G first) → ((place : ℕ) → P place → Q place) → (A → B) → RefusedFor G Q B e
refused_more F G P Q A B (NotAJournal first) foreign f p a = f first foreign
refused_more F G P Q A B (Damaged place) damaged f p a = p place damaged
refused_more F G P Q A B DiskFault rose f p a = a rose
refused_more F G P Q A B OutOfMemory any f p a = tt
