use Rattle.jobs.proofs.Reading.{from_start}
use Rattle.jobs.proofs.parse.parse_written.Goals as goal

pub returns-clause-read : goal.returns-clause-read
returns-clause-read c =
    from_start _ _ c.whole.result c.new.result c.new-source.result c.args.text.now _ c.new.ensures.source c.new.ensures.at c.new-source.ensures.bytes
    c.new-source.ensures.start c.whole.ensures.read
