use Rattle.esm_io.specs.Meanings.{disk as meaning}
use Rattle.esm_mapping.proofs.OneAnswer.{no_reason, one_mapping, one_reason}
use Rattle.esm_mapping.proofs.laws.one_answer.Goals as goal

pub returns-clause-one_mapping : goal.returns-clause-one_mapping
returns-clause-one_mapping g c = λ w old one other honest first second.
    let m = meaning g.D.Disk in
    one_mapping m w old honest one other first second

pub returns-clause-no_reason : goal.returns-clause-no_reason
returns-clause-no_reason g c = λ w old new named why honest sound is not.
    let m = meaning g.D.Disk in
    no_reason m w old new honest sound named why is not

pub returns-clause-one_reason : goal.returns-clause-one_reason
returns-clause-one_reason g c = λ w old new one other honest sound why caused also caused'.
    let m = meaning g.D.Disk in
    one_reason m w old new honest sound one other why caused also caused'
