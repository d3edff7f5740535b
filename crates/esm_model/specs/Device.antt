-- The whole state of a device of any type, as a code. This product's own: codes are one to one, so equal codes are those of
-- equal states.
use base.Stored.{Gv, Coded}

abbrev pub coded_whole : Coded Gv
coded_whole = record { code = λ whole. whole; inj = λ one other same. same }
