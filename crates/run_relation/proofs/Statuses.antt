-- The status of an answer to a verdict: no fault that the bytes show is one of a device.
use Rattle.std.proofs.Common.{◌≤◌, arith}
use Rattle.pixel_plane.specs.Verdicts.{Verdict, image, unfound, unreadable, truncated, out_of_range}
use Rattle.run_relation.specs.Answers.{end_status, end_of}
use Rattle.pixel_plane.specs.Streams.{stop_of}

pub by_verdict : (found : Verdict) → end_status (end_of (stop_of found)) ≤ 2
by_verdict (image plane head end) = omega arith
by_verdict (unfound fault taken) = omega arith
by_verdict (unreadable fault head) = omega arith
by_verdict (truncated head taken) = omega arith
by_verdict (out_of_range head end pixel stored) = omega arith
