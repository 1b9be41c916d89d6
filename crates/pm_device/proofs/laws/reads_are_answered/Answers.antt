use Rattle.std.proofs.Common.{refl}
use Rattle.std.proofs.lemmas.Bool.{lt-ltb}
use Rattle.pm_table.specs.Codes as command
use Rattle.pm_frame.specs.declared.message.Message.TheVariants.{ReadCommand, PagePlusRead, ReadCoefficients}
use Rattle.pm_device.proofs.Replies.{answer-is, coefficients-refused, request-answered, cell-answered, read-back}
use Rattle.pm_device.proofs.laws.reads_are_answered.Goals as goal

pub returns : goal.returns
returns c =
    let exact = c.requests_are_exact.ensures in
    let short = c.payloads_are_short.ensures in
    record {
      answer = answer-is exact short;
      answered = request-answered exact short;
      cell = λ held output code cell bytes h there names. cell-answered exact short held output code cell bytes (h, there, names);
      protect = λ held bytes h. request-answered exact short held (ReadCommand command.write_protect) bytes h refl;
      mode = λ held output bytes h there.
          request-answered exact short held (PagePlusRead output command.vout_mode) bytes h (lt-ltb output held.config.count there);
      coefficients = λ held bytes h direct.
          request-answered exact short held (ReadCoefficients command.vout_command 0x00) bytes h direct;
      no_coefficients = coefficients-refused exact;
      number = read-back c.registers_are_in_the_table.ensures;
    }
