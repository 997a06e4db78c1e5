-- The numbers of the limits.
use Rattle.std.specs.Prelude.{◌≡◌}
use Rattle.tsa_base.specs.declared.limits.TheConstants as limit

pub record LimitsAreAsWritten : Type 0 where
  pub input : limit.INPUT_LIMIT ≡ 1048576
  pub nesting : limit.NESTING_LIMIT ≡ 100
  pub points : limit.POINT_LIMIT ≡ 4096
  pub capabilities : limit.CAPABILITY_LIMIT ≡ 256
  pub functions : limit.FUNCTION_LIMIT ≡ 1024
  pub places : limit.PLACE_LIMIT ≡ 65536
  pub tries : limit.TRY_LIMIT ≡ 48
  pub pending : limit.PENDING_LIMIT ≡ 54
  pub threads : limit.THREAD_LIMIT ≡ 64
  pub turns : limit.TURN_LIMIT ≡ 100000
  pub frames : limit.FRAME_LIMIT ≡ 256
