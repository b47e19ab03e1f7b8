use Rattle.std.proofs.Common.{◌≡◌, ℕ, List, length, sym, ◌∙◌, ap, drop}
use Rattle.std.proofs.lemmas.List.{length-take-le}
use Rattle.writer.specs.Layouts.{laid_bytes}
use Rattle.writer.proofs.Cuts.{length_laid}
use Rattle.writer.proofs.FormWrites.{writes_back}
use Rattle.writer.proofs.WrittenReads.{reads_back}
use Rattle.writer.proofs.writing.write.Goals as goal

pub returns-then-out-lt-SHORT-clause-writes_back : goal.returns-then-out-lt-SHORT-clause-writes_back
returns-then-out-lt-SHORT-clause-writes_back c = writes_back

pub returns-in_err-asked-clause-writes_back : goal.returns-in_err-asked-clause-writes_back
returns-in_err-asked-clause-writes_back c = writes_back

pub copy_from_slice-requires : goal.copy_from_slice-requires
copy_from_slice-requires c =
    let size : length c.laid.result ≡ 27 = ap (λ (xs : List ℕ). length xs) c.laid.ensures ∙ length_laid _ in
    length-take-le 27 c.args.out.now c.if-out-lt-SHORT.false ∙ sym size

pub returns-clause-reads_back : goal.returns-clause-reads_back
returns-clause-reads_back c =
    let bytes = c.copy_from_slice.ensures.after ∙ c.laid.ensures ∙ ap laid_bytes c.layout.ensures in
    rw bytes (reads_back c.args.draft (drop 27 c.args.out.now) (sym c.asked.ensures ∙ c.in_ok-asked.was))

pub returns-clause-writes_back : goal.returns-clause-writes_back
returns-clause-writes_back c = writes_back
