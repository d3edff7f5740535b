-- A fresh pair of files opens to no payload.
use Rattle.std.proofs.Common.{◌≡◌, ℕ, List, [], refl, sym, ◌∙◌}
use Rattle.esm_folder.specs.Init.{fresh_bytes}
use Rattle.esm_model.specs.declared.names.FileName.TheVariants.{Journal, Spare}
use Rattle.esm_journal.specs.File.{Holding, header_of}
use Rattle.esm_journal.specs.Pair.{pair_opened}

fresh_opens : pair_opened (header_of 2) (fresh_bytes Journal) (fresh_bytes Spare) ≡ Holding 1 []
fresh_opens = refl

pub fresh_none : (one other : List ℕ) (epoch : ℕ) (payloads : List (List ℕ)) → one ≡ fresh_bytes Journal → other ≡ fresh_bytes Spare
    → pair_opened (header_of 2) one other ≡ Holding epoch payloads → payloads ≡ []
fresh_none one other epoch payloads e f h = let both = sym fresh_opens ∙ (rw (e, f) at h) in cc both
