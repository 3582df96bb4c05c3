-- The line fits its 40 bytes.
use Rattle.wall.proofs.Failures.{failure-length}
use Rattle.wall.proofs.channel.tell.Goals as goal

pub put_failure-n-requires : goal.put_failure-n-requires
put_failure-n-requires c = failure-length c.args.what.now c.error_number.result c.requires c.error_number.type_inv
