-- `stream::keep` meets its contract: the bytes that there is room for are put behind the kept ones.
-- Assumes nothing.
use mathlib.Core.Path.{◌≡◌, sym}
use native.Mathlib.Omega.{arith}
use lib.ListN.{length, take}
use lib.Seq.{length-take-le}
use Rattle.stream.proofs.Keeping.{Fits, keep-is}
use Rattle.stream.proofs.keep.Goals as goal

pub slice_bounds-put_bytes-end-2 : goal.slice_bounds-put_bytes-end-2
slice_bounds-put_bytes-end-2 c =
    let within : length (take c.min-n.result c.args.bytes.now) ≡ c.min-n.result =
    length-take-le _ _ (omega (arith, c.min-n.ensures)) in
    sym within

pub put_bytes-requires : goal.put_bytes-requires
put_bytes-requires c =
    let fits : Fits c.args.s =
    record { most = c.requires; long = c.well_formed.0.1.1.1.1.1.0.1.0.1 } in
    let within : length (take c.min-n.result c.args.bytes.now) ≡ c.min-n.result =
    length-take-le _ _ (omega (arith, c.min-n.ensures)) in
    omega (arith, within, c.min-n.ensures, fits.most, fits.long)

pub returns : goal.returns
returns c =
    let fits : Fits c.args.s =
    record { most = c.requires; long = c.well_formed.0.1.1.1.1.1.0.1.0.1 } in
    keep-is c.args.s c.args.bytes.now fits _ c.min-n.ensures _ _ c.put_bytes.ensures
