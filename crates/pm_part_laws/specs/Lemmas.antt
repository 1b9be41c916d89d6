-- Facts that proofs above take by name. Each look back over what happened beside a part finds what one over the life that is like it
-- finds, and what a host was told before it last restarted counts for nothing. No frame of a host depends on PAGE, on readings or on
-- latched bits, and nothing that happens changes how a part is made.
pub mod Made
pub mod Narrow
pub mod Pageless
pub mod Renewed
