-- What the reader works with moves between threads where its source does.
use denote.Hole.{as_row}
use denote.Param.Send.{IsSend, sendable, view_send}
use denote.Param.SendFields.{as_row_send, declared_send}
use denote.RattleType.{RattleType}
use denote.Struct.Field.{bool-field}
use Rattle.std.proofs.Crossing.{crosses}
use Rattle.std.specs.contracts.alloc.Global as Global
use Rattle.esm_record.proofs.splitter.Splitter.TheSendSync as splitter
use Rattle.esm_record.specs.contracts.fed_bytes.FedBytes as FedBytes
use Rattle.esm_record.specs.contracts.fed_bytes.FedBytes.TheInside as FedInside
use Rattle.esm_record.specs.contracts.lines.Lines as Lines
use Rattle.esm_record.specs.contracts.lines.Lines.TheInside as LinesInside
use Rattle.esm_record.specs.contracts.splitter.Splitter as Splitter
use Rattle.esm_input.proofs.ending.InputEnd.TheSendSync as ending
use Rattle.esm_input.specs.contracts.input.Input as Input
use Rattle.esm_input.specs.contracts.input.Input.TheInside as Inside
use Rattle.esm_io.specs.declared.source.Source as Source
use Rattle.esm_pool.specs.contracts.reader.Reader as Reader

fed_fields : IsSend FedInside.the_row
fed_fields = search (sendable, crosses) depth 40

fed : IsSend FedBytes.the_row
fed = view_send FedInside.the_row _ _ _ _ fed_fields

bools : IsSend (as_row bool-field)
bools = search sendable depth 20

allocators : IsSend (as_row Global.the_field)
allocators = search (sendable, crosses) depth 20

lines_fields : IsSend LinesInside.the_row
lines_fields = declared_send LinesInside.the_type (
  allocators,
  (
    as_row_send FedBytes.the_field fed,
    (
      as_row_send Splitter.the_field splitter.the_field_send,
      (
        bools,
        (
          bools,
          tt,
        ),
      ),
    ),
  ),
)

lines : IsSend Lines.the_row
lines = view_send LinesInside.the_row _ _ _ _ lines_fields

module _ (S : RattleType) (s : Source.Ghosts S.Denot) where
  input_fields : IsSend S → IsSend (Inside.the_row S s)
  input_fields source = search (lines, ending.the_send, sendable, crosses) depth 40

  pub input_send : IsSend S → IsSend (Input.the_row S s)
  input_send source = view_send (Inside.the_row S s) _ _ _ _ (input_fields source)

  pub reader_send : IsSend S → IsSend (Reader.the_row S s)
  reader_send source = search (input_send, sendable, crosses) depth 40
