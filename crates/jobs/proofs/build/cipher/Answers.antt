use Rattle.jobs.proofs.OfFiles.{leaf_is}
use Rattle.jobs.proofs.build.cipher.Goals as goal

pub returns-in-Ok : goal.returns-in-Ok
returns-in-Ok c =
    leaf_is c.args.files.now c.args.draft c.args.key c.in-Ok.coding (record {
      draft = _;
      key = _;
      draft_is = c.in_ok-draft_bytes.ensures;
      key_is = c.in_ok-key_bytes.ensures;
      bytes = c.in-Ok.ensures;
    }) c.on_heap.result c.on_heap.ensures
