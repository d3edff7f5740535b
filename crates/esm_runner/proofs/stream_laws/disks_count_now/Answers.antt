use Rattle.esm_runner.proofs.stream_laws.disks_count_now.Goals as goal

pub returns : goal.returns
returns g c = record {
  only_now = λ d bytes honest since. g.met.D.Disk.only_now d bytes honest since;
  counts_now = λ d t bytes honest early image. g.met.D.Disk.counts_now d t bytes honest early image;
}
