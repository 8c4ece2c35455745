-- Why there are no sockets to serve.
use Rattle.std.specs.Prelude.{◌≡◌, ◌⊎◌}
use Rattle.chpw_sockets.specs.declared.pool_fault.PoolFault.{PoolFault}
use Rattle.chpw_sockets.specs.declared.pool_fault.PoolFault.TheVariants.{Accept, Memory}

-- why an engine can't be made
abbrev pub IsUnmade : PoolFault → Type 0
IsUnmade fault = (fault ≡ Accept) ⊎ (fault ≡ Memory)
