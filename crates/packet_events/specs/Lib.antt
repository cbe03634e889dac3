pub mod PacketEvents
